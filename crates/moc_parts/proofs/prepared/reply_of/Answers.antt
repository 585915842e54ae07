use Rattle.std.proofs.Common.{List, ap, ◌∙◌}
use Rattle.moc_lists.specs.RangeList.{NumberSet}
use Rattle.moc_parts.specs.declared.command.Command.{Command}
use Rattle.moc_parts.specs.Batches.{replies_on}
use Rattle.moc_parts.specs.Parts.{union_of}
use Rattle.moc_parts.specs.Prepared.{given_sets}
use Rattle.moc_parts.proofs.Twelve.{within_parts_are_parts, parts_within}
use Rattle.moc_parts.proofs.BatchLocality.{replied}
use Rattle.moc_parts.proofs.prepared.reply_of.Goals as goal

pub returns : goal.returns
returns c =
    let cs : List Command = c.args.batch.now in
    let before : NumberSet = union_of (given_sets c.args.before.now) in
    replied cs before before c.in_ok-replies.replies c.commands.ensures.valid (parts_within (given_sets c.args.before.now) (within_parts_are_parts (given_sets c.args.before.now) c.requires.parts)) (λ i. before)
    (c.in_ok-replies.ensures.replies ∙ ap (λ (l : List Command). replies_on before l) c.commands.ensures.commands)

pub run-requires-clause-parts : goal.run-requires-clause-parts
run-requires-clause-parts c = within_parts_are_parts (given_sets c.args.before.now) c.requires.parts
