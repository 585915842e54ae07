use Rattle.std.proofs.Common.{◌≡◌, ◌<◌, ◌∙◌, arith, ap, sym, subst, length, slice_set, ℕ, List, []}
use Rattle.std.proofs.lemmas.List.{get_or_read}
use Rattle.std.specs.Arc.{arc_value}
use Rattle.moc_blocks.specs.RangeList.{IsNormal}
use Rattle.moc_blocks.specs.Private.Blocks.{first_of, last_of, width_of}
use Rattle.moc_blocks.specs.Blocks.{concat, AreBlocks}
use Rattle.moc_blocks.proofs.Blocking.{first_of-concat, last_of-concat, length_last, width_bounded, range_count_bounded}
use Rattle.moc_blocks.proofs.Replacing.{width_replaced, length_replaced, as_many}
use Rattle.moc_blocks.proofs.node.Node.replace_block.Goals as goal

pub overflow_sub-self : goal.overflow_sub-self
overflow_sub-self c =
    let is : c.in-Some.blocks.now.items ≡ (arc_value c.self.inside.blocks).items = ap (λ v. v.items) c.in-Some.ensures.value in
    let there : c.args.place < length c.in-Some.blocks.now.items = omega (arith, ap length is, ap length c.self.view_is, c.requires.place) in
    omega (arith, width_replaced c.in-Some.blocks.now.items c.args.place c.index.result.now [] there c.index.ensures, c.size.ensures.value, c.self.invariant.summary.measured, ap (λ (l : List (List (ℕ × ℕ))). width_of (concat l)) is)

pub overflow_add-self : goal.overflow_add-self
overflow_add-self c =
    let is : c.in-Some.blocks.now.items ≡ (arc_value c.self.inside.blocks).items = ap (λ v. v.items) c.in-Some.ensures.value in
    let there : c.args.place < length c.in-Some.blocks.now.items = omega (arith, ap length is, ap length c.self.view_is, c.requires.place) in
    let new : IsNormal (concat (slice_set c.in-Some.blocks.now.items c.args.place c.args.block)) = subst (λ (l : List (List (ℕ × ℕ))). IsNormal (concat (slice_set l c.args.place c.args.block))) (sym c.self.view_is ∙ sym is) c.requires.normal in
    omega (arith, width_replaced c.in-Some.blocks.now.items c.args.place c.index.result.now c.args.block there c.index.ensures, c.size.ensures.value, c.size-2.ensures.value, c.self.invariant.summary.measured, ap (λ (l : List (List (ℕ × ℕ))). width_of (concat l)) is, width_bounded _ new)

pub overflow_sub-self-2 : goal.overflow_sub-self-2
overflow_sub-self-2 c =
    let is : c.in-Some.blocks.now.items ≡ (arc_value c.self.inside.blocks).items = ap (λ v. v.items) c.in-Some.ensures.value in
    let there : c.args.place < length c.in-Some.blocks.now.items = omega (arith, ap length is, ap length c.self.view_is, c.requires.place) in
    omega (arith, length_replaced c.in-Some.blocks.now.items c.args.place c.index-2.result.now [] there c.index-2.ensures, ap length c.ranges-2.ensures.value, c.self.invariant.counted, ap (λ (l : List (List (ℕ × ℕ))). length (concat l)) is)

pub overflow_add-self-2 : goal.overflow_add-self-2
overflow_add-self-2 c =
    let is : c.in-Some.blocks.now.items ≡ (arc_value c.self.inside.blocks).items = ap (λ v. v.items) c.in-Some.ensures.value in
    let there : c.args.place < length c.in-Some.blocks.now.items = omega (arith, ap length is, ap length c.self.view_is, c.requires.place) in
    let new : IsNormal (concat (slice_set c.in-Some.blocks.now.items c.args.place c.args.block)) = subst (λ (l : List (List (ℕ × ℕ))). IsNormal (concat (slice_set l c.args.place c.args.block))) (sym c.self.view_is ∙ sym is) c.requires.normal in
    omega (arith, length_replaced c.in-Some.blocks.now.items c.args.place c.index-2.result.now c.args.block there c.index-2.ensures, ap length c.ranges-2.ensures.value, ap length c.ranges-3.ensures.value, c.self.invariant.counted, ap (λ (l : List (List (ℕ × ℕ))). length (concat l)) is, range_count_bounded _ new)

pub invariant_of-self-2 : goal.invariant_of-self-2
invariant_of-self-2 c =
    let bs = c.in-Some.blocks.now.items in
    let new = slice_set bs c.args.place c.args.block in
    let none : List (ℕ × ℕ) = [] in
    let is : bs ≡ (arc_value c.self.inside.blocks).items = ap (λ v. v.items) c.in-Some.ensures.value in
    let there : c.args.place < length bs = omega (arith, ap length is, ap length c.self.view_is, c.requires.place) in
    let whole : c.args.self.now ≡ bs = sym c.self.view_is ∙ sym is in
    let many = as_many bs c.args.place c.args.block in
    let first = get_or_read new _ _ (omega (arith, many, there)) c.index-3.ensures none in
    let last = get_or_read new _ _ (omega (arith, many, there, c.len.ensures)) c.index-4.ensures none in
    let fill_rule_prefix = subst (λ (b : List (ℕ × ℕ)). 0 < length b) first c.from-self-inside.ensures.some in
    let fill_rule_last = subst (λ (b : List (ℕ × ℕ)). 0 < length b) last c.to-self-inside.ensures.some in
    record {
      sized = subst (λ (l : List (List (ℕ × ℕ))). AreBlocks (slice_set l c.args.place c.args.block)) whole c.requires.sized;
      fits = omega (arith, many, ap length is, c.self.invariant.fits);
      counted = omega (arith, length_replaced bs c.args.place c.index-2.result.now none there c.index-2.ensures, length_replaced bs c.args.place c.index-2.result.now c.args.block there c.index-2.ensures, ap length c.ranges-2.ensures.value, ap length c.ranges-3.ensures.value, c.self.invariant.counted, ap (λ (l : List (List (ℕ × ℕ))). length (concat l)) is);
      summary = record {
        some = length_last new none 0 (omega (arith, many, there)) fill_rule_prefix;
        first = c.from-self-inside.ensures.value ∙ ap first_of first ∙ sym (first_of-concat new none (omega (arith, many, there)) fill_rule_prefix);
        last = c.to-self-inside.ensures.value ∙ ap last_of last ∙ sym (last_of-concat new none _ (omega (arith, many, there, c.len.ensures)) fill_rule_last);
        measured = omega (arith, width_replaced bs c.args.place c.index.result.now none there c.index.ensures, width_replaced bs c.args.place c.index.result.now c.args.block there c.index.ensures, c.size.ensures.value, c.size-2.ensures.value, c.self.invariant.summary.measured, ap (λ (l : List (List (ℕ × ℕ))). width_of (concat l)) is);
      };
    }
