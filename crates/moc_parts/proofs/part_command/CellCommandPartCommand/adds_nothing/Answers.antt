use Rattle.std.proofs.Common.{◌∙◌, ap, sym}
use Rattle.moc_lists.specs.RangeList.{NumberSet}
use Rattle.moc_sphere.specs.CellNumber.{CellNumber}
use Rattle.moc_ranges.specs.Cells.{span}
use Rattle.moc_parts.specs.CellCommands.{command_of_action}
use Rattle.moc_parts.specs.Commands.{reply_on, set_after}
use Rattle.moc_parts.specs.declared.part_command.CellAction.{CellAction}
use Rattle.moc_parts.specs.declared.reply.Reply.TheVariants.{Changed}
use Rattle.moc_parts.proofs.CellCommands.{from_true, union_with_subset, none_new}
use Rattle.moc_parts.proofs.part_command.CellCommandPartCommand.adds_nothing.Goals as goal

pub returns-in-Add-clause-set : goal.returns-in-Add-clause-set
returns-in-Add-clause-set c = from_true c.contains_cell.result (λ has.
    let a : NumberSet = c.args.pixels.now in
    let cell : CellNumber = c.args.self.now.cell in
    ap (λ (k : CellAction). set_after a (command_of_action k cell)) c.in-Add.is
    ∙ union_with_subset a (span cell.order cell.index) (sym c.contains_cell.ensures ∙ has))

pub returns-in-Add-clause-reply : goal.returns-in-Add-clause-reply
returns-in-Add-clause-reply c = from_true c.contains_cell.result (λ has.
    let a : NumberSet = c.args.pixels.now in
    let cell : CellNumber = c.args.self.now.cell in
    ap (λ (k : CellAction). reply_on a (command_of_action k cell)) c.in-Add.is
    ∙ ap Changed (none_new a (span cell.order cell.index) (sym c.contains_cell.ensures ∙ has)))
