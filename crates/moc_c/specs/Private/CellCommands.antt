-- Commands on one cell of a map.
use Rattle.std.specs.Prelude.{◌≡◌, ◌⊎◌, ◌∷◌, [], ℕ, List, Ok}
use Rattle.moc_sphere.specs.CellNumber.{CellNumber}
use Rattle.moc_ranges.specs.Cells.{span}
use Rattle.moc_parts.specs.CellCommands.{command_of_action, command_on_cell}
use Rattle.moc_parts.specs.declared.part_command.CellAction.{CellAction}
use Rattle.moc_parts.specs.declared.part_command.CellCommand.{CellCommand}
use Rattle.moc_parts.specs.declared.reply.Reply.{Reply}
use Rattle.moc_c.specs.Buffers.{set_of_cells_or_error}
use Rattle.moc_c.specs.CallResults.{number_result}
use Rattle.moc_c.specs.Commands.{command_on, number_of_reply, value_of_reply}
use Rattle.moc_c.specs.Membership.{Membership}
use Rattle.moc_c.specs.Sharing.{FailsTrying, MemberEnds}
use Rattle.moc_c.specs.declared.commands.Verb.{Verb}
use Rattle.moc_c.specs.declared.call_result.CallResult.{CallResult}

-- the command of the verb on the pixels of a cell is that of the action, and its value is the number of the reply
pub record ActsOnCells (verb : Verb) (action : CellAction) : Type 0 where
  pub command : (c : CellNumber) → command_of_action action c ≡ command_on verb (span c.order c.index)
  pub value : (pixels : ℕ) (r : Reply) → value_of_reply verb pixels r ≡ number_of_reply r

-- the command on a cell has the effect and the value of the verb on the only cell of the indices
pub record IsCellCommand (verb : Verb) (order : ℕ) (cells : List ℕ) (command : CellCommand) : Type 0 where
  pub acts : ActsOnCells verb command.action
  pub only : set_of_cells_or_error order cells ≡ Ok (span command.cell.order command.cell.index)

-- the member's call of the command on a cell is executed, and the result is the number of its reply; or it fails
abbrev pub ExecutesOnCell : Membership → Membership → CellCommand → CallResult → Type 0
ExecutesOnCell m n c o =
    ((r : Reply) × MemberEnds m n (command_on_cell c ∷ []) (r ∷ []) × (o ≡ number_result (number_of_reply r)))
    ⊎ FailsTrying m n (command_on_cell c ∷ []) o
