use Rattle.std.proofs.Common.{◌≡◌, arith, ap, sym, ◌∙◌, List, ℕ, subst}
use Rattle.std.proofs.lemmas.List.{get_or_read}
use Rattle.std.specs.Arc.{arc_value}
use Rattle.moc_blocks.specs.Private.Blocks.{width_of, IsBlock}
use Rattle.moc_blocks.proofs.Blocking.{first_of-get, last_of-get}
use Rattle.moc_blocks.proofs.block.Block.new.Goals as goal

pub invariant_of-result : goal.invariant_of-result
invariant_of-result c =
    let rs = c.args.ranges.items in
    let same : (arc_value c.in_ok-ranges.ranges).items ≡ rs = ap (λ v. v.items) c.in_ok-ranges.ensures.ok in
    let first = get_or_read rs _ _ (omega arith) c.index.ensures (0, 0) in
    let last = get_or_read rs _ _ (omega arith) c.index-2.ensures (0, 0) in
    subst (λ (l : List (ℕ × ℕ)). IsBlock c.index.result.now.0 c.index-2.result.now.1 c.width_of_ranges-size.result l) (sym same) (record {
      fits = c.requires.fits;
      summary = record {
        some = c.requires.some;
        first = ap (λ p. p.0) first ∙ sym (first_of-get rs (0, 0) (omega arith));
        last = ap (λ p. p.1) last ∙ sym (last_of-get rs (0, 0) _ (omega arith));
        measured = c.width_of_ranges-size.ensures ∙ ap width_of c.deref.ensures.value;
      };
    })
