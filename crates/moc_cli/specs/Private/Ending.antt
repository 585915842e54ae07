-- The exit status of a result.
use Rattle.std.specs.Prelude.{Result, Ok, Err}
use Rattle.moc_conversion.specs.declared.notes.Notes.{Notes}
use Rattle.moc_cli.specs.Statuses.{status_of}
use Rattle.moc_cli.specs.declared.status.ProgramError.{ProgramError}
use Rattle.moc_cli.specs.declared.status.Status.{Status}
use Rattle.moc_cli.specs.declared.status.Status.TheVariants.{Success}

-- the exit status of a result
abbrev pub status_of_result : Result Notes ProgramError → Status
status_of_result (Ok _) = Success
status_of_result (Err error) = status_of error
