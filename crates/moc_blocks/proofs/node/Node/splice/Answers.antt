use Rattle.std.proofs.Common.{◌≡◌, ◌<◌, ◌∙◌, arith, ap, sym, subst, length, get_or, slice_set, ℕ, List, []}
use Rattle.std.proofs.lemmas.List.{get_or_read}
use Rattle.std.specs.Arc.{arc_value}
use Rattle.moc_blocks.specs.RangeList.{IsNormal}
use Rattle.moc_blocks.specs.Private.Blocks.{first_of, last_of, width_of}
use Rattle.moc_blocks.specs.Private.Edits.{after_splice}
use Rattle.moc_blocks.specs.Blocks.{concat, AreBlocks}
use Rattle.moc_blocks.proofs.Blocking.{first_of-concat, last_of-concat, length_last, width_bounded, range_count_bounded}
use Rattle.moc_blocks.proofs.Replacing.{width_replaced, length_replaced, as_many}
use Rattle.moc_blocks.proofs.Splicing.{on_true, set_again, spliced_is, spliced_normal}
use Rattle.moc_blocks.proofs.node.Node.splice.Goals as goal

pub overflow_sub-other_pixels : goal.overflow_sub-other_pixels
overflow_sub-other_pixels c =
    let is : c.in-Some.blocks.now.items ≡ (arc_value c.self.inside.blocks).items = ap (λ v. v.items) c.in-Some.ensures.value in
    let there : c.args.block < length c.in-Some.blocks.now.items = omega (arith, ap length is, ap length c.self.view_is, c.requires.there) in
    omega (arith, width_replaced c.in-Some.blocks.now.items c.args.block c.index.result.now [] there c.index.ensures, c.size.ensures.value, c.self.invariant.summary.measured, ap (λ (l : List (List (ℕ × ℕ))). width_of (concat l)) is)

pub overflow_sub-other_ranges : goal.overflow_sub-other_ranges
overflow_sub-other_ranges c =
    let is : c.in-Some.blocks.now.items ≡ (arc_value c.self.inside.blocks).items = ap (λ v. v.items) c.in-Some.ensures.value in
    let there : c.args.block < length c.in-Some.blocks.now.items = omega (arith, ap length is, ap length c.self.view_is, c.requires.there) in
    omega (arith, length_replaced c.in-Some.blocks.now.items c.args.block c.index-2.result.now [] there c.index-2.ensures, ap length c.ranges-2.ensures.value, c.self.invariant.counted, ap (λ (l : List (List (ℕ × ℕ))). length (concat l)) is)

pub splice-requires-clause-normal : goal.splice-requires-clause-normal
splice-requires-clause-normal c =
    let bs = c.in-Some.blocks.now.items in
    let none : List (ℕ × ℕ) = [] in
    let whole : bs ≡ c.args.self.now = ap (λ v. v.items) c.in-Some.ensures.value ∙ c.self.view_is in
    let is = get_or_read bs c.args.block c.index_mut.result.now (omega (arith, ap length whole, c.requires.there)) c.index_mut.ensures.value none in
    subst (λ (b : List (ℕ × ℕ)). IsNormal (after_splice c.args.splice b)) (ap (λ (l : List (List (ℕ × ℕ))). get_or l c.args.block none) (sym whole) ∙ sym is)
    (spliced_normal c.args.self.now c.args.block c.args.splice c.requires)

pub splice-requires-clause-was_normal : goal.splice-requires-clause-was_normal
splice-requires-clause-was_normal c =
    let bs = c.in-Some.blocks.now.items in
    let none : List (ℕ × ℕ) = [] in
    let whole : bs ≡ c.args.self.now = ap (λ v. v.items) c.in-Some.ensures.value ∙ c.self.view_is in
    let is = get_or_read bs c.args.block c.index_mut.result.now (omega (arith, ap length whole, c.requires.there)) c.index_mut.ensures.value none in
    subst IsNormal (ap (λ (l : List (List (ℕ × ℕ))). get_or l c.args.block none) (sym whole) ∙ sym is) c.requires.was_normal

pub overflow_add-self : goal.overflow_add-self
overflow_add-self c =
    let bs = c.in-Some.blocks.now.items in
    let is : bs ≡ (arc_value c.self.inside.blocks).items = ap (λ v. v.items) c.in-Some.ensures.value in
    let there : c.args.block < length bs = omega (arith, ap length is, ap length c.self.view_is, c.requires.there) in
    let made = spliced_is bs c.args.self.now c.args.block c.args.splice c.index_mut.result.now c.splice.new.self (is ∙ c.self.view_is) c.requires.there c.index_mut.ensures.value (on_true _ c.if-not-branch.false c.in_ok-splice.ensures.put) in
    let new = subst (λ (l : List (List (ℕ × ℕ))). IsNormal (concat l)) (sym made) c.requires.normal in
    omega (arith, width_replaced bs c.args.block c.index.result.now c.splice.new.self there c.index.ensures, c.size.ensures.value, c.size-2.ensures.value, ap width_of (set_again bs c.args.block c.splice.new.self _ there c.index-3.ensures), c.self.invariant.summary.measured, ap (λ (l : List (List (ℕ × ℕ))). width_of (concat l)) is, width_bounded _ new)

pub overflow_add-self-2 : goal.overflow_add-self-2
overflow_add-self-2 c =
    let bs = c.in-Some.blocks.now.items in
    let is : bs ≡ (arc_value c.self.inside.blocks).items = ap (λ v. v.items) c.in-Some.ensures.value in
    let there : c.args.block < length bs = omega (arith, ap length is, ap length c.self.view_is, c.requires.there) in
    let made = spliced_is bs c.args.self.now c.args.block c.args.splice c.index_mut.result.now c.splice.new.self (is ∙ c.self.view_is) c.requires.there c.index_mut.ensures.value (on_true _ c.if-not-branch.false c.in_ok-splice.ensures.put) in
    let new = subst (λ (l : List (List (ℕ × ℕ))). IsNormal (concat l)) (sym made) c.requires.normal in
    omega (arith, length_replaced bs c.args.block c.index-2.result.now c.splice.new.self there c.index-2.ensures, ap length c.ranges-2.ensures.value, ap length c.ranges-3.ensures.value, ap length (set_again bs c.args.block c.splice.new.self _ there c.index-4.ensures), c.self.invariant.counted, ap (λ (l : List (List (ℕ × ℕ))). length (concat l)) is, range_count_bounded _ new)

pub invariant_of-self-2 : goal.invariant_of-self-2
invariant_of-self-2 c =
    let bs = c.in-Some.blocks.now.items in
    let new = slice_set bs c.args.block c.splice.new.self in
    let none : List (ℕ × ℕ) = [] in
    let is : bs ≡ (arc_value c.self.inside.blocks).items = ap (λ v. v.items) c.in-Some.ensures.value in
    let there : c.args.block < length bs = omega (arith, ap length is, ap length c.self.view_is, c.requires.there) in
    let made = spliced_is bs c.args.self.now c.args.block c.args.splice c.index_mut.result.now c.splice.new.self (is ∙ c.self.view_is) c.requires.there c.index_mut.ensures.value (on_true _ c.if-not-branch.false c.in_ok-splice.ensures.put) in
    let many = as_many bs c.args.block c.splice.new.self in
    let first = get_or_read new _ _ (omega (arith, many, there)) c.index-5.ensures none in
    let last = get_or_read new _ _ (omega (arith, many, there, c.len.ensures)) c.index-6.ensures none in
    let some_first = subst (λ (b : List (ℕ × ℕ)). 0 < length b) first c.from-self-inside.ensures.some in
    let some_last = subst (λ (b : List (ℕ × ℕ)). 0 < length b) last c.to-self-inside.ensures.some in
    record {
      sized = subst AreBlocks (sym made) c.requires.sized;
      fits = omega (arith, many, ap length is, c.self.invariant.fits);
      counted = omega (arith, length_replaced bs c.args.block c.index-2.result.now none there c.index-2.ensures, length_replaced bs c.args.block c.index-2.result.now c.splice.new.self there c.index-2.ensures, ap length c.ranges-2.ensures.value, ap length c.ranges-3.ensures.value, ap length (set_again bs c.args.block c.splice.new.self _ there c.index-4.ensures), c.self.invariant.counted, ap (λ (l : List (List (ℕ × ℕ))). length (concat l)) is);
      summary = record {
        some = length_last new none 0 (omega (arith, many, there)) some_first;
        first = c.from-self-inside.ensures.value ∙ ap first_of first ∙ sym (first_of-concat new none (omega (arith, many, there)) some_first);
        last = c.to-self-inside.ensures.value ∙ ap last_of last ∙ sym (last_of-concat new none _ (omega (arith, many, there, c.len.ensures)) some_last);
        measured = omega (arith, width_replaced bs c.args.block c.index.result.now none there c.index.ensures, width_replaced bs c.args.block c.index.result.now c.splice.new.self there c.index.ensures, c.size.ensures.value, c.size-2.ensures.value, ap width_of (set_again bs c.args.block c.splice.new.self _ there c.index-3.ensures), c.self.invariant.summary.measured, ap (λ (l : List (List (ℕ × ℕ))). width_of (concat l)) is);
      };
    }
