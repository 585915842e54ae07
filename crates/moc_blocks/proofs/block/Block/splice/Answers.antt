use Rattle.std.proofs.Common.{◌≡◌, ◌∙◌, arith, ap, sym, subst, length, List, ℕ}
use Rattle.std.proofs.lemmas.List.{get_or_read}
use Rattle.moc_blocks.specs.Private.Blocks.{width_of}
use Rattle.moc_blocks.specs.RangeList.{IsNormal}
use Rattle.moc_blocks.specs.Private.Edits.{old_ranges, after_splice}
use Rattle.moc_blocks.proofs.Blocking.{first_of-get, last_of-get, width_bounded}
use Rattle.moc_blocks.proofs.Splicing.{new_normal, old_width_bounded, spliced_width}
use Rattle.moc_blocks.proofs.block.Block.splice.Goals as goal

pub old_width-requires-clause-normal : goal.old_width-requires-clause-normal
old_width-requires-clause-normal c =
    let is : c.in-Some.ranges.now.items ≡ c.args.self.now = ap (λ v. v.items) c.in-Some.ensures.value ∙ c.self.view_is in
    subst IsNormal (sym (c.deref.ensures.value ∙ is)) c.requires.was_normal

pub overflow_sub-other_pixels : goal.overflow_sub-other_pixels
overflow_sub-other_pixels c =
    let is : c.in-Some.ranges.now.items ≡ c.args.self.now = ap (λ v. v.items) c.in-Some.ensures.value ∙ c.self.view_is in
    omega (arith, c.old_width.ensures, ap (λ (l : List (ℕ × ℕ)). width_of (old_ranges c.args.splice l)) (c.deref.ensures.value ∙ is), old_width_bounded c.args.splice c.args.self.now, c.self.invariant.summary.measured, ap width_of c.self.view_is)

pub new_width-requires : goal.new_width-requires
new_width-requires c = new_normal c.args.splice c.args.self.now c.requires.normal

pub overflow_add-self : goal.overflow_add-self
overflow_add-self c =
    let is : c.in-Some.ranges.now.items ≡ c.args.self.now = ap (λ v. v.items) c.in-Some.ensures.value ∙ c.self.view_is in
    omega (arith, c.old_width.ensures, ap (λ (l : List (ℕ × ℕ)). width_of (old_ranges c.args.splice l)) (c.deref.ensures.value ∙ is), old_width_bounded c.args.splice c.args.self.now, c.self.invariant.summary.measured, ap width_of c.self.view_is, c.new_width.ensures, spliced_width c.args.splice c.args.self.now, width_bounded _ c.requires.normal)

pub invariant_of-self-2 : goal.invariant_of-self-2
invariant_of-self-2 c =
    let new = c.splice_list.new.ranges.items in
    let is : c.in-Some.ranges.now.items ≡ c.args.self.now = ap (λ v. v.items) c.in-Some.ensures.value ∙ c.self.view_is in
    let made : new ≡ after_splice c.args.splice c.args.self.now = c.in_ok-splice_list.ensures.put ∙ ap (after_splice c.args.splice) is in
    let first = get_or_read new _ _ (omega (arith, ap length made, c.requires.some)) c.index.ensures (0, 0) in
    let last = get_or_read new _ _ (omega (arith, ap length made, c.requires.some, c.len.ensures)) c.index-2.ensures (0, 0) in
    record {
      fits = omega (arith, ap length made, c.requires.fits);
      summary = record {
        some = omega (arith, ap length made, c.requires.some);
        first = ap (λ p. p.0) first ∙ sym (first_of-get new (0, 0) (omega (arith, ap length made, c.requires.some)));
        last = ap (λ p. p.1) last ∙ sym (last_of-get new (0, 0) _ (omega (arith, ap length made, c.requires.some, c.len.ensures, c.splice_list.new.ranges.ok)));
        measured = omega (arith, ap width_of made, c.old_width.ensures, ap (λ (l : List (ℕ × ℕ)). width_of (old_ranges c.args.splice l)) (c.deref.ensures.value ∙ is), old_width_bounded c.args.splice c.args.self.now, c.self.invariant.summary.measured, ap width_of c.self.view_is, c.new_width.ensures, spliced_width c.args.splice c.args.self.now);
      };
    }
