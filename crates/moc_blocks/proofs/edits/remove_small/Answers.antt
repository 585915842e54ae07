use Rattle.std.proofs.Common.{◌∙◌, ◌++◌, ap, subst, refl, sym}
use Rattle.moc_blocks.specs.RangeList.{IsNormal}
use Rattle.moc_blocks.specs.Private.Blocks.{width_of}
use Rattle.moc_blocks.specs.Private.Edits.{parts_below, parts_from}
use Rattle.moc_blocks.proofs.Cutting.{cut_out}
use Rattle.moc_blocks.proofs.Editing.{removed_less}
use Rattle.moc_blocks.proofs.edits.remove_small.Goals as goal

pub width_of_ranges-requires-2 : goal.width_of_ranges-requires-2
width_of_ranges-requires-2 c =
    let less = cut_out c.args.from c.args.to c.args.small.now.items c.in_ok-ranges.ranges.items c.requires.normal c.requires.filled c.requires.within (c.in_ok-ranges.ensures ∙ (λ i. parts_below c.args.from (c.deref.ensures.value i) ++ parts_from c.args.to (c.deref.ensures.value i))) in
    subst IsNormal (sym c.deref-3.ensures.value) less.normal

pub overflow_sub-removed : goal.overflow_sub-removed
overflow_sub-removed c =
    let less = cut_out c.args.from c.args.to c.args.small.now.items c.in_ok-ranges.ranges.items c.requires.normal c.requires.filled c.requires.within (c.in_ok-ranges.ensures ∙ (λ i. parts_below c.args.from (c.deref.ensures.value i) ++ parts_from c.args.to (c.deref.ensures.value i))) in
    (removed_less c.args.from c.args.to c.width_of_ranges.result c.width_of_ranges-2.result _ c.args.small.now.items c.in_ok-ranges.ranges.items c.requires.normal less.normal less.same
    (c.width_of_ranges.ensures ∙ ap width_of c.deref-2.ensures.value) (c.width_of_ranges-2.ensures ∙ ap width_of c.deref-3.ensures.value) refl).0

pub returns-clause-normal : goal.returns-clause-normal
returns-clause-normal c =
    (cut_out c.args.from c.args.to c.args.small.now.items c.in_ok-ranges.ranges.items c.requires.normal c.requires.filled c.requires.within (c.in_ok-ranges.ensures ∙ (λ i. parts_below c.args.from (c.deref.ensures.value i) ++ parts_from c.args.to (c.deref.ensures.value i)))).normal

pub returns-clause-removed : goal.returns-clause-removed
returns-clause-removed c =
    let less = cut_out c.args.from c.args.to c.args.small.now.items c.in_ok-ranges.ranges.items c.requires.normal c.requires.filled c.requires.within (c.in_ok-ranges.ensures ∙ (λ i. parts_below c.args.from (c.deref.ensures.value i) ++ parts_from c.args.to (c.deref.ensures.value i))) in
    (removed_less c.args.from c.args.to c.width_of_ranges.result c.width_of_ranges-2.result _ c.args.small.now.items c.in_ok-ranges.ranges.items c.requires.normal less.normal less.same
    (c.width_of_ranges.ensures ∙ ap width_of c.deref-2.ensures.value) (c.width_of_ranges-2.ensures ∙ ap width_of c.deref-3.ensures.value) refl).1
