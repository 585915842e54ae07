use Rattle.moc_ranges.specs.Cells.{span}
use Rattle.moc_parts.proofs.SingleParts.{no_addition, no_removal}
use Rattle.moc_parts.proofs.part_command.CellCommandPartCommand.execute_on.Goals as goal

pub returns-in_ok-insert_cell-in-Add-clause-same : goal.returns-in_ok-insert_cell-in-Add-clause-same
returns-in_ok-insert_cell-in-Add-clause-same c = no_addition c.args.pixels.now (span c.args.self.now.cell.order c.args.self.now.cell.index) c.insert_cell.new.self c.in_ok-insert_cell-in-Add.field-0 c.in_ok-insert_cell-in-Add.ensures.set c.in_ok-insert_cell-in-Add.ensures.added

pub returns-in_ok-remove_cell-in-Remove-clause-same : goal.returns-in_ok-remove_cell-in-Remove-clause-same
returns-in_ok-remove_cell-in-Remove-clause-same c = no_removal c.args.pixels.now (span c.args.self.now.cell.order c.args.self.now.cell.index) c.remove_cell.new.self c.in_ok-remove_cell-in-Remove.field-0 c.in_ok-remove_cell-in-Remove.ensures.set c.in_ok-remove_cell-in-Remove.ensures.removed
