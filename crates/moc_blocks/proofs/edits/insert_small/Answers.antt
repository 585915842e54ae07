use Rattle.std.proofs.Common.{◌∙◌, ap, List, ℕ, subst, refl}
use Rattle.moc_blocks.specs.Private.Blocks.{width_of}
use Rattle.moc_blocks.specs.Private.Edits.{AreEditedRanges}
use Rattle.moc_blocks.specs.declared.edits.rebuild.EditKind.TheVariants.{Insert}
use Rattle.moc_blocks.proofs.Editing.{inserted_adds}
use Rattle.moc_blocks.proofs.edits.insert_small.Goals as goal

pub overflow_sub-added : goal.overflow_sub-added
overflow_sub-added c =
    let more = subst (λ (l : List (ℕ × ℕ)). AreEditedRanges Insert c.args.from c.args.to l c.in_ok-ranges.ranges.items) c.deref.ensures.value c.in_ok-ranges.ensures in
    (inserted_adds c.args.from c.args.to c.width_of_ranges-2.result c.width_of_ranges.result _ c.args.small.now.items c.in_ok-ranges.ranges.items c.requires.normal more.normal more.same
    (c.width_of_ranges-2.ensures ∙ ap width_of c.deref-3.ensures.value) (c.width_of_ranges.ensures ∙ ap width_of c.deref-2.ensures.value) refl).0

pub returns-clause-inserted : goal.returns-clause-inserted
returns-clause-inserted c =
    let more = subst (λ (l : List (ℕ × ℕ)). AreEditedRanges Insert c.args.from c.args.to l c.in_ok-ranges.ranges.items) c.deref.ensures.value c.in_ok-ranges.ensures in
    (inserted_adds c.args.from c.args.to c.width_of_ranges-2.result c.width_of_ranges.result _ c.args.small.now.items c.in_ok-ranges.ranges.items c.requires.normal more.normal more.same
    (c.width_of_ranges-2.ensures ∙ ap width_of c.deref-3.ensures.value) (c.width_of_ranges.ensures ∙ ap width_of c.deref-2.ensures.value) refl).1
