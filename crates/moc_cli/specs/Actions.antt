-- How an action ends: its output, or its error.
use Rattle.std.specs.Prelude.{◌≡◌, ◌⊎◌, ℕ, List, ◌++◌, codes, Result, Ok, Err}
use Rattle.std.specs.FinSet as set
use Rattle.moc_devices.specs.Devices.{SourceState, SinkState, Accepts, AcceptsNone}
use Rattle.moc_script.specs.Crews.{CrewEnds, lane_count}
use Rattle.moc_lines.specs.Numberings.{renumber_rules}
use Rattle.moc_lines.specs.Runs.{Runs, line_limit, script_rules}
use Rattle.moc_lines.specs.declared.run_error.RunError.{RunError}
use Rattle.moc_script.specs.Schedules.{schedule_rules, start_schedule}
use Rattle.moc_conversion.specs.Combining.{CombinesAll, IsNotCombined}
use Rattle.moc_conversion.specs.Conversion.{ChangesAll, ConvertsAll, DescribesAll, DrawsAll, IsNotConverted, IsNotDrawn}
use Rattle.moc_conversion.specs.Conversion.{FailsParsing, IsValidInput}
use Rattle.moc_conversion.specs.Notes.{AreNotesOn, check_notes, combine_notes, no_notes}
use Rattle.moc_conversion.specs.declared.error.InputError.{InputError}
use Rattle.moc_conversion.specs.declared.notes.Notes.{Notes}
use Rattle.moc_cli.specs.Listing.{error_list}
use Rattle.moc_cli.specs.Numbers.{IsNumberLine, IsConversionError}
use Rattle.moc_cli.specs.declared.action.Action.{Action}
use Rattle.moc_cli.specs.declared.action.Action.TheVariants.{Run, Play, Crew, Number, Renumber, Convert, Check}
use Rattle.moc_cli.specs.declared.action.Action.TheVariants.{Describe, Draw, Change, Combine, Faults}
use Rattle.moc_cli.specs.declared.status.ProgramError.{ProgramError}
use Rattle.moc_cli.specs.declared.status.ProgramError.TheVariants as program

-- there are no notes
abbrev pub AreNone : Notes → Type 0
AreNone notes = notes ≡ no_notes

-- a run or a crew ends with this result, without notes, and its error becomes an error of the program
abbrev pub RunEnds : (Result (Unit {0}) RunError → Type 0) → Result Notes ProgramError → Type 0
RunEnds ends (Ok notes) = AreNone notes × ends (Ok tt)
RunEnds ends (Err error) = (cause : RunError) × (error ≡ program.Lines cause) × ends (Err cause)

-- the text was written, with notes that have a property; or a prefix of it if the output failed; or nothing if an error
-- came first
abbrev pub PrintsText :
    (List ℕ → Type 0) → (Notes → Type 0) → (ProgramError → Type 0) → SinkState → SinkState
    → Result Notes ProgramError → Type 0
PrintsText is are fails sink sink' (Ok notes) = (text : List ℕ) × is text × are notes × Accepts sink sink' text
PrintsText is are fails sink sink' (Err error) =
    ((error ≡ program.Write) × (front rest : List ℕ) × is (front ++ rest) × Accepts sink sink' front)
    ⊎ (fails error × AcceptsNone sink sink')

-- the error is that of the input
abbrev pub IsInputError : (InputError → Type 0) → ProgramError → Type 0
IsInputError is error = (cause : InputError) × (error ≡ program.Input cause) × is cause

-- An action ends with this result, between these states of the input and these states of the output. The result has
-- the notes on what was read, which only `check` and `combine` have, or an error.
abbrev pub ActionEnds :
    Action → SourceState → SourceState → SinkState → SinkState
    → Result Notes ProgramError → Type 0
ActionEnds Run source source' sink sink' =
    RunEnds (λ end. Runs line_limit script_rules set.empty source source' sink sink' end)
ActionEnds Play source source' sink sink' =
    RunEnds (λ end. Runs line_limit schedule_rules start_schedule source source' sink sink' end)
ActionEnds (Crew lanes) source source' sink sink' =
    RunEnds (λ end. CrewEnds (lane_count lanes) source source' sink sink' end)
ActionEnds (Number number) source source' sink sink' =
    PrintsText (IsNumberLine number) AreNone (IsConversionError number) sink sink'
ActionEnds (Renumber r) source source' sink sink' =
    RunEnds (λ end. Runs line_limit renumber_rules r source source' sink sink' end)
ActionEnds (Convert from to) source source' sink sink' =
    PrintsText (ConvertsAll from to source source') AreNone
    (IsInputError (IsNotConverted from source source')) sink sink'
ActionEnds (Check choice) source source' sink sink' =
    PrintsText (λ text. IsValidInput choice source source' × (text ≡ codes "ok\n"))
    (AreNotesOn (check_notes choice) source source') (IsInputError (FailsParsing choice source source')) sink sink'
ActionEnds (Describe choice) source source' sink sink' =
    PrintsText (DescribesAll choice source source') AreNone
    (IsInputError (FailsParsing choice source source')) sink sink'
ActionEnds (Draw choice names) source source' sink sink' =
    PrintsText (DrawsAll choice names source source') AreNone
    (IsInputError (IsNotDrawn choice source source')) sink sink'
ActionEnds (Change change choice) source source' sink sink' =
    PrintsText (ChangesAll change choice source source') AreNone
    (IsInputError (FailsParsing choice source source')) sink sink'
ActionEnds (Combine operation choice) source source' sink sink' =
    PrintsText (CombinesAll operation choice source source') (AreNotesOn combine_notes source source')
    (IsInputError (IsNotCombined choice source source')) sink sink'
ActionEnds Faults source source' sink sink' = PrintsText (λ text. text ≡ error_list) AreNone (λ _. ⊥) sink sink'
