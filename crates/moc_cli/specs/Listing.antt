-- The output of the subcommand `faults`: the exit statuses, and the errors with their meaning.
use Rattle.std.specs.Prelude.{ℕ, ◌+◌, ◌-◌, List, [], ◌∷◌, ◌++◌, codes, length, replicate, None}
use Rattle.moc_lines.specs.Language.{name_of_line_error}
use Rattle.moc_lines.specs.Numberings.{name_of_number_error}
use Rattle.moc_lines.specs.Runs.{name_of_run_error}
use Rattle.moc_lines.specs.declared.error.LineError.TheVariants as line
use Rattle.moc_lines.specs.declared.numbering.NumberError.TheVariants as number
use Rattle.moc_lines.specs.declared.run_error.RunError.TheVariants as run
use Rattle.moc_text.specs.declared.ascii.error.TextError.TheVariants as text
use Rattle.moc_text.specs.declared.json_format.error.JsonError.TheVariants as json
use Rattle.moc_text.specs.declared.uniq.UniqError.TheVariants as uniq
use Rattle.moc_text.specs.Names.{name_of_json, name_of_text, name_of_uniq, fault_report}
use Rattle.moc_conversion.specs.Errors.{name_of_input}
use Rattle.moc_conversion.specs.declared.error.InputError.TheVariants as input
use Rattle.moc_sphere.specs.declared.cell.CellError.TheVariants as cell
use Rattle.moc_cli.specs.Statuses.{code_of, name_of_cell}
use Rattle.moc_cli.specs.declared.status.Status.{Status}
use Rattle.moc_cli.specs.declared.status.Status.TheVariants.{Success, Invalid, BadCommandLine, Failed}

-- a line of the list
abbrev pub text_line : List ℕ → List ℕ
text_line text = text ++ codes "\n"

-- the digit of a status
abbrev pub digit_of : Status → List ℕ
digit_of status = (48 + code_of status) ∷ []

-- a status or the name of an error, and its meaning
abbrev pub Meaning : Type 0
Meaning = List ℕ × List ℕ

-- the lines of meanings: the first column has this width
abbrev pub meaning_lines : ℕ → List Meaning → List ℕ
meaning_lines width [] = []
meaning_lines width (m ∷ meanings) =
    text_line (codes "  " ++ m.0 ++ replicate (width - length m.0) 32 ++ m.1) ++ meaning_lines width meanings

-- meanings under a heading, and an empty line after them
abbrev pub section : List ℕ → ℕ → List Meaning → List ℕ
section heading width meanings = text_line (heading ++ codes ":") ++ meaning_lines width meanings ++ text_line []

-- the width of the column of statuses
abbrev pub status_width : ℕ
status_width = 3

-- the width of the column of names of errors
abbrev pub name_width : ℕ
name_width = 17

-- the list of the statuses, and of the errors by subject, with an example after it
unfoldable pub error_list : List ℕ
error_list =
    section (codes "Statuses") status_width (
    (digit_of Success, codes "success, also if lines had the reply `fault`, and after help")
    ∷ (digit_of Invalid, codes "invalid number or text, or a line too long; standard error has `fault NAME`")
    ∷ (digit_of BadCommandLine, codes "invalid command line")
    ∷ (digit_of Failed, codes "input or output failed, out of memory, or no thread: `fault NAME`")
    ∷ [])
    ++ section (codes "Numbers of cells") name_width (
    (name_of_cell cell.CellTooLarge, codes "the order has no such cell; order k has 12 times 4^k, from 0")
    ∷ (name_of_cell cell.RingTooLarge, codes "the order has no such ring number; it has 12 times 4^k")
    ∷ (name_of_cell cell.NotUniq, codes "not a NUNIQ number, 4 to 2^62 - 1")
    ∷ (name_of_number_error number.OtherOrder, codes "a NUNIQ number of another order (renumber)")
    ∷ (name_of_number_error number.BadNumber, codes "not a number in decimal digits")
    ∷ (name_of_number_error number.WrongCount, codes "too few or too many fields on a line")
    ∷ [])
    ++ section (codes "Coverages in ASCII") name_width (
    (name_of_text (text.BadByte 0), codes "an unexpected byte")
    ∷ (name_of_text (text.Unfinished 0), codes "a word that ends too early")
    ∷ (name_of_text (text.NoOrder 0), codes "a cell before the first order")
    ∷ (name_of_text (text.OrderTooLarge 0), codes "an order above 29")
    ∷ (name_of_text (text.CellTooLarge 0), codes "the order has no such cell")
    ∷ (name_of_text (text.Backwards 0), codes "a range a-b with b below a")
    ∷ [])
    ++ section (codes "Coverages in JSON") name_width (
    (name_of_json json.NotJson, codes "invalid JSON")
    ∷ (name_of_json json.NotObject, codes "a JSON text that is not an object")
    ∷ (name_of_json (json.BadOrder 0), codes "a name that is not an order, 0 to 29")
    ∷ (name_of_json (json.NotArray 0), codes "the value of a name is not an array")
    ∷ (name_of_json (json.NotWhole 0 0), codes "an item that is not a whole number")
    ∷ (name_of_json (json.CellTooLarge 0 0), codes "the order has no such cell")
    ∷ [])
    ++ section (codes "NUNIQ lists") name_width (
    (name_of_uniq (uniq.BadByte 0), codes "a byte that is not a digit")
    ∷ (name_of_uniq (uniq.NotUniq 0), codes "not a NUNIQ number")
    ∷ [])
    ++ section (codes "Lengths") name_width (
    (name_of_input (input.TooLong None), codes "a text of more than 1 GiB; for `convert`, 16 MiB")
    ∷ (name_of_run_error (run.LineTooLong 0), codes "a line of more than 1,048,576 bytes")
    ∷ [])
    ++ section (codes "Lines of scripts and schedules") name_width (
    (name_of_line_error line.UnknownWord, codes "unknown command")
    ∷ (name_of_line_error line.EmptyCommand, codes "nothing before, between or after `;`")
    ∷ (name_of_line_error line.TooManyCommands, codes "more than 16 commands on a line")
    ∷ (name_of_line_error line.ClientTooLarge, codes "a client above 4294967295")
    ∷ (name_of_line_error line.PartTooLarge, codes "a part above 11")
    ∷ [])
    ++ section (codes "Devices") name_width (
    (name_of_input input.Read ++ codes ", " ++ name_of_run_error run.Write, codes "standard input or output failed")
    ∷ (name_of_input input.Memory, codes "out of memory")
    ∷ (codes "Spawn", codes "a thread could not be started")
    ∷ [])
    ++ text_line (codes "Example:") ++ text_line (codes "  moc cell 3") ++ text_line (codes "writes to standard error")
    ++ codes "  " ++ fault_report (name_of_cell cell.NotUniq)
