-- Commands whose operand is one cell.
use Rattle.std.specs.Prelude.{None}
use Rattle.moc_sphere.specs.CellNumber.{CellNumber}
use Rattle.moc_ranges.specs.Cells.{span}
use Rattle.moc_parts.specs.declared.command.Command.{Command}
use Rattle.moc_parts.specs.declared.command.Command.TheVariants.{Add, Remove, Claim, Count}
use Rattle.moc_parts.specs.declared.command.Operand.{Operand}
use Rattle.moc_parts.specs.declared.part_command.CellAction.{CellAction}
use Rattle.moc_parts.specs.declared.part_command.CellAction.TheVariants as action
use Rattle.moc_parts.specs.declared.part_command.CellCommand.{CellCommand}

-- an operand without an order: the pixels of a cell
abbrev pub cell_operand : CellNumber → Operand
cell_operand c = record { set = span c.order c.index; coarse = None }

-- the command of this kind on the pixels of a cell
abbrev pub command_of_action : CellAction → CellNumber → Command
command_of_action action.Add c = Add (cell_operand c)
command_of_action action.Remove c = Remove (cell_operand c)
command_of_action action.Claim c = Claim (cell_operand c)
command_of_action action.Count c = Count (cell_operand c)

-- the command on the pixels of a cell
abbrev pub command_on_cell : CellCommand → Command
command_on_cell c = command_of_action c.action c.cell
