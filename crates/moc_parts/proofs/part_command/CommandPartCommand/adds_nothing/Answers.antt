use Rattle.std.proofs.Common.{◌≡◌, ◌∙◌, ap, sym, subst}
use Rattle.std.specs.FinSet as set
use Rattle.moc_lists.specs.RangeList.{NumberSet}
use Rattle.moc_parts.specs.Commands.{operand_set, reply_on, set_after, IsPlain}
use Rattle.moc_parts.specs.declared.command.Command.{Command}
use Rattle.moc_parts.specs.declared.reply.Reply.TheVariants.{Changed}
use Rattle.moc_parts.proofs.CellCommands.{from_true, union_with_subset, none_new}
use Rattle.moc_parts.proofs.part_command.CommandPartCommand.adds_nothing.Goals as goal

pub returns-in-Add-clause-set : goal.returns-in-Add-clause-set
returns-in-Add-clause-set c = from_true c.covers.result (λ all.
    let a : NumberSet = c.args.pixels.now in
    let plain : operand_set c.in-Add.x ≡ c.in-Add.x.set = subst IsPlain c.in-Add.is c.requires in
    ap (λ (d : Command). set_after a d) c.in-Add.is ∙ ap (λ (s : NumberSet). set.union a s) plain
    ∙ union_with_subset a c.in-Add.x.set (sym c.covers.ensures.all ∙ all))

pub returns-in-Add-clause-reply : goal.returns-in-Add-clause-reply
returns-in-Add-clause-reply c = from_true c.covers.result (λ all.
    let a : NumberSet = c.args.pixels.now in
    let plain : operand_set c.in-Add.x ≡ c.in-Add.x.set = subst IsPlain c.in-Add.is c.requires in
    ap (λ (d : Command). reply_on a d) c.in-Add.is
    ∙ ap Changed (ap (λ (s : NumberSet). set.len (set.difference s a)) plain ∙ none_new a c.in-Add.x.set (sym c.covers.ensures.all ∙ all)))
