use Rattle.std.proofs.Common.{sym, ap, refl, ◌∙◌}
use Rattle.std.specs.Option.{option_copied}
use Rattle.std.specs.FinSet as set
use Rattle.moc_parts.specs.Prepared.{content_or_empty}
use Rattle.moc_parts.proofs.Sums.{union-no_pixels}
use Rattle.moc_parts.proofs.MergingParts.{united_next}
use Rattle.moc_parts.proofs.whole.merge_parts.Goals as goal
use Rattle.moc_parts.proofs.whole.merge_parts.Goals.{in-Some+in_ok-whole, in_default}

pub loop-part-preserved : goal.loop-part-preserved
loop-part-preserved c =
    let before = c.loop-part.whole in
    united_next c.args.parts.now c.loop-part.part-index c.part-item.result before c.match-part.whole c.loop-part-test.true c.type_inv.parts c.part-item.is c.loop-part.invariant
    (elim c.match-part.branch [
      | in-Some+in_ok-whole w ↦ w.whole-is ∙ w.in_ok-whole.ensures.set ∙ ap (λ x. set.union before (content_or_empty (option_copied x))) (sym (c.part-item.is ∙ w.in-Some.is))
      | in_default w ↦ w.whole-is ∙ sym (union-no_pixels before set.empty refl) ∙ ap (λ x. set.union before (content_or_empty (option_copied x))) (sym (c.part-item.is ∙ w.in_default.is))
    ])
