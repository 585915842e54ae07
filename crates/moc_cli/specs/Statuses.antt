-- The exit statuses of the program, and the texts of its errors.
use Rattle.std.specs.Prelude.{◌≡◌, ◌⊎◌, ℕ, List, codes}
use Rattle.moc_sphere.specs.declared.cell.CellError.{CellError}
use Rattle.moc_sphere.specs.declared.cell.CellError.TheVariants.{CellTooLarge, NotUniq, OutOfFace, RingTooLarge}
use Rattle.moc_lines.specs.declared.run_error.RunError.TheVariants as run
use Rattle.moc_lines.specs.Runs.{name_of_run_error}
use Rattle.moc_text.specs.Names.{fault_report}
use Rattle.moc_conversion.specs.Errors.{input_error_text}
use Rattle.moc_conversion.specs.declared.error.InputError.{InputError}
use Rattle.moc_conversion.specs.declared.error.InputError.TheVariants as input_error
use Rattle.moc_cli.specs.declared.status.ProgramError.{ProgramError}
use Rattle.moc_cli.specs.declared.status.ProgramError.TheVariants.{Input, Number, Lines, Write, Memory}
use Rattle.moc_cli.specs.declared.status.Status.{Status}
use Rattle.moc_cli.specs.declared.status.Status.TheVariants.{Success, Invalid, BadCommandLine, Failed}

-- the number of a status
abbrev pub code_of : Status → ℕ
code_of Success = 0
code_of Invalid = 1
code_of BadCommandLine = 2
code_of Failed = 3

-- the exit status of an error: that of `Invalid` or that of `Failed`
abbrev pub IsErrorCode : ℕ → Type 0
IsErrorCode code = (code ≡ code_of Invalid) ⊎ (code ≡ code_of Failed)

-- the status for an error of the input
abbrev pub status_of_input : InputError → Status
status_of_input input_error.Read = Failed
status_of_input input_error.Memory = Failed
status_of_input _ = Invalid

-- `Failed` for a failed device, an allocation failure and a thread that could not be started; else `Invalid`
abbrev pub status_of : ProgramError → Status
status_of (Input e) = status_of_input e
status_of (Number e) = Invalid
status_of (Lines (run.LineTooLong line)) = Invalid
status_of _ = Failed

-- the name of the error of a number that no cell has
abbrev pub name_of_cell : CellError → List ℕ
name_of_cell CellTooLarge = codes "CellTooLarge"
name_of_cell NotUniq = codes "NotUniq"
name_of_cell OutOfFace = codes "OutOfFace"
name_of_cell RingTooLarge = codes "RingTooLarge"

-- the text of an error: that of an error of the input, or a line
abbrev pub error_text : ProgramError → List ℕ
error_text (Input e) = input_error_text e
error_text (Number e) = fault_report (name_of_cell e)
error_text (Lines e) = fault_report (name_of_run_error e)
error_text Write = fault_report (codes "Write")
error_text Memory = fault_report (codes "Memory")
