use Rattle.std.proofs.Common.{◌≡◌, List, ap, ◌∙◌}
use Rattle.moc_lists.specs.RangeList.{NumberSet}
use Rattle.moc_parts.specs.declared.command.Command.{Command}
use Rattle.moc_parts.specs.Batches.{set_after_all, replies_on}
use Rattle.moc_parts.specs.Parts.{union_of}
use Rattle.moc_parts.specs.Prepared.{given_sets, is_given, part_if}
use Rattle.moc_parts.proofs.Twelve.{within_parts_are_parts, parts_within}
use Rattle.moc_parts.proofs.BatchLocality.{determined}
use Rattle.moc_parts.proofs.prepared.prepare.Goals as goal

pub returns : goal.returns
returns c =
    let cs : List Command = c.args.batch.now in
    let sets : List NumberSet = given_sets c.args.before.now in
    let before : NumberSet = union_of sets in
    let after : c.in_ok-draft.draft.set ≡ set_after_all before cs = (λ i. (c.in_ok-draft.ensures.draft i).set) ∙ ap (λ (l : List Command). set_after_all before l) c.commands.ensures.commands in
    record {
      determined = determined cs before before c.in_ok-draft.replies c.commands.ensures.valid (parts_within sets (within_parts_are_parts sets c.requires)) (λ i. before)
          (c.in_ok-draft.ensures.replies ∙ ap (λ (l : List Command). replies_on before l) c.commands.ensures.commands);
      parts = λ b l. c.in_ok-lists.ensures b l ∙ ap (λ a. part_if (is_given c.args.before.now b) a b) after;
    }

pub run-requires-clause-parts : goal.run-requires-clause-parts
run-requires-clause-parts c = within_parts_are_parts (given_sets c.args.before.now) c.requires
