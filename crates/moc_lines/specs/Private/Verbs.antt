-- The words of commands that take an operand, and the fields of `near`.
use Rattle.std.specs.Prelude.{ℕ, List, nat_lt, if◌then◌else◌, Option, Some, None, Result, Ok, Err}
use Rattle.std.specs.Option.{ok_or}
use Rattle.moc_sphere.specs.CellNumber.{cell_count, cell_number}
use Rattle.moc_lines.specs.Language.{decimal_value, ◌>>=◌}
use Rattle.moc_parts.specs.declared.command.Operand.{Operand}
use Rattle.moc_parts.specs.declared.command.Command.{Command}
use Rattle.moc_parts.specs.declared.command.Command.TheVariants as command
use Rattle.moc_lines.specs.declared.error.LineError.{LineError}
use Rattle.moc_lines.specs.declared.error.LineError.TheVariants.{UnknownWord, BadNumber, OrderTooLarge, CellTooLarge}
use Rattle.moc_lines.specs.declared.command.Verb.{Verb}
use Rattle.moc_lines.specs.declared.command.Verb.TheVariants.{Add, Remove, Keep, Claim, Count, Read}

-- the command of a verb, as a function of its operand
abbrev pub verb_command : Verb → Operand → Command
verb_command Add = λ operand. command.Add operand
verb_command Remove = λ operand. command.Remove operand
verb_command Keep = λ operand. command.Keep operand
verb_command Claim = λ operand. command.Claim operand
verb_command Count = λ operand. command.Count operand
verb_command Read = λ operand. command.Read operand

-- the command of a verb, or `UnknownWord` if there is no verb
abbrev pub word_command : Option Verb → Result (Operand → Command) LineError
word_command None = Err UnknownWord
word_command (Some verb) = Ok (verb_command verb)

-- the numbers of two fields
abbrev pub two_decimal_values : List ℕ → List ℕ → Result (ℕ × ℕ) LineError
two_decimal_values first second = do
  a ← ok_or (decimal_value first) BadNumber
  b ← ok_or (decimal_value second) BadNumber
  Ok (a, b)

-- the cell of two fields, an order and a number
abbrev pub near_command : List ℕ → List ℕ → Result Command LineError
near_command order index = do
  (k, i) ← two_decimal_values order index
  if nat_lt 29 k then Err OrderTooLarge
      else (if nat_lt i (cell_count k) then Ok (command.Near (cell_number k i)) else Err CellTooLarge)
