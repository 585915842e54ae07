use Rattle.std.proofs.Common.{◌≡◌, List, sym, ap, ◌∙◌}
use Rattle.moc_lists.specs.RangeList.{NumberSet}
use Rattle.moc_ranges.specs.Operations.{part_of}
use Rattle.moc_parts.specs.declared.command.Command.{Command}
use Rattle.moc_parts.specs.Batches.{set_after_all, replies_on}
use Rattle.moc_parts.specs.Private.Drafts.{current_lists}
use Rattle.moc_parts.specs.Parts.{union_of}
use Rattle.moc_parts.specs.Prepared.{given_sets}
use Rattle.moc_parts.proofs.Twelve.{within_parts_are_parts, parts_within}
use Rattle.moc_parts.proofs.Drafting.{changed_part_is}
use Rattle.moc_parts.proofs.BatchLocality.{determined}
use Rattle.moc_parts.proofs.prepared.prepare_changes.Goals as goal

pub returns : goal.returns
returns c =
    let cs : List Command = c.args.batch.now in
    let sets : List NumberSet = given_sets c.args.before.now in
    let before : NumberSet = union_of sets in
    let after : c.in_ok-draft.draft.set ≡ set_after_all before cs = (λ i. (c.in_ok-draft.ensures.draft i).set) ∙ ap (λ (l : List Command). set_after_all before l) c.commands.ensures.commands in
    let same : c.in_ok-draft.draft.before ≡ sets = λ i. (c.in_ok-draft.ensures.draft i).before in
    record {
      determined = determined cs before before c.in_ok-draft.replies c.commands.ensures.valid (parts_within sets (within_parts_are_parts sets c.requires)) (λ i. before)
          (c.in_ok-draft.ensures.replies ∙ ap (λ (l : List Command). replies_on before l) c.commands.ensures.commands);
      parts = λ b l. changed_part_is sets c.into_new_lists-lists.result c.in_ok-draft.draft.set b (within_parts_are_parts sets c.requires) c.into_new_lists-lists.ensures.twelve
          (ap (λ s. current_lists s c.into_new_lists-lists.result) (sym same) ∙ c.into_new_lists-lists.ensures.lists) l
          ∙ ap (λ a. part_of a b) after;
    }

pub run-requires-clause-parts : goal.run-requires-clause-parts
run-requires-clause-parts c = within_parts_are_parts (given_sets c.args.before.now) c.requires
