-- What the program has done when it ends.
use Rattle.std.specs.Prelude.{◌≡◌, ◌≢◌, ◌⊎◌, ℕ, ◌++◌, Bool, false, List, [], Ok, Err, IsTrue}
use Rattle.std.specs.Prelude.{◌&&◌, codes, drop, length, nat_le, nat_lt, slice_index_or}
use Rattle.std.specs.List.{list_all}
use Rattle.moc_devices.specs.Devices.{SourceState, SinkState, Accepts, AcceptsNone}
use Rattle.clap.specs.Words.{App, Text, takes, fault_of, IsAmong}
use Rattle.clap.specs.declared.error.kind.ErrorKind.{ErrorKind}
use Rattle.clap.specs.declared.error.kind.ErrorKind.TheVariants.{DisplayHelp, DisplayVersion, OutOfMemory}
use Rattle.moc_command_line.specs.CommandLine.{IsCommandLine}
use Rattle.moc_lines.specs.declared.run_error.RunError.TheVariants as run
use Rattle.moc_conversion.specs.Notes.{notes_text}
use Rattle.moc_conversion.specs.declared.error.InputError.TheVariants as input_error
use Rattle.moc_conversion.specs.declared.notes.Notes.{Notes}
use Rattle.moc_cli.specs.Actions.{ActionEnds}
use Rattle.moc_cli.specs.Requests.{RequestAction}
use Rattle.moc_cli.specs.Explanations.{IsUsageErrorText}
use Rattle.moc_cli.specs.Statuses.{code_of, error_text, status_of}
use Rattle.moc_cli.specs.declared.action.Action.{Action}
use Rattle.moc_cli.specs.declared.status.ProgramError.{ProgramError}
use Rattle.moc_cli.specs.declared.status.ProgramError.TheVariants.{Input, Lines, Write, Memory}

-- an error of the command line: neither help nor the version nor an allocation failure
pub record IsUsageError (kind : ErrorKind) : Type 0 where
  pub not_memory : kind ≢ OutOfMemory
  pub not_help : kind ≢ DisplayHelp
  pub not_version : kind ≢ DisplayVersion

-- `clap` parses the arguments as a request for help or for the version
pub record RequestHelp (arguments : List Text) : Type 0 where
  pub app : App
  pub line : IsCommandLine app
  pub kind : ErrorKind
  pub among : IsAmong kind (fault_of app arguments)
  pub help : (kind ≡ DisplayHelp) ⊎ (kind ≡ DisplayVersion)

-- `clap` rejects the arguments as invalid
pub record AreInvalid (arguments : List Text) : Type 0 where
  pub app : App
  pub line : IsCommandLine app
  pub rejected : takes app arguments ≡ false
  pub kind : ErrorKind
  pub among : IsAmong kind (fault_of app arguments)
  pub usage_error : IsUsageError kind

-- a name of a coverage: 1 to 40 bytes, all of printable ASCII
abbrev pub is_name : Text → Bool
is_name text = nat_lt 0 (length text) && nat_le (length text) 40 && list_all (λ b. nat_le 32 b && nat_lt b 127) text

-- the subcommand is `draw`, and an argument after the format is not a name
pub record HasInvalidName (arguments : List Text) : Type 0 where
  pub draws : slice_index_or arguments 0 [] ≡ codes "draw"
  pub invalid : list_all is_name (drop 2 arguments) ≡ false

-- `clap` rejects the arguments in every case
pub record AreAlwaysInvalid (arguments : List Text) : Type 0 where
  pub some : (app : App) → IsCommandLine app → fault_of app arguments ≢ []
  pub all : (app : App) → IsCommandLine app → (kind : ErrorKind) → IsAmong kind (fault_of app arguments)
      → IsUsageError kind

-- a device that an error blames has failed: the input, the output
abbrev pub BlamesFailed : Bool → Bool → ProgramError → Type 0
BlamesFailed input output (Input cause) = cause ≡ input_error.Read → IsTrue input
BlamesFailed input output (Lines cause) = (cause ≡ run.Read → IsTrue input) × (cause ≡ run.Write → IsTrue output)
BlamesFailed input output Write = IsTrue output
BlamesFailed input output _ = Unit {0}

-- some bytes were accepted
abbrev pub AcceptsSome : SinkState → SinkState → Type 0
AcceptsSome sink sink' = (bytes : List ℕ) × (bytes ≢ []) × Accepts sink sink' bytes

-- Memory ran out before any output; or the arguments ask for help and a write failed, after any bytes; or the action of
-- the arguments ends with this error.
abbrev pub CanEndWith :
    List Text → SourceState → SourceState → SinkState → SinkState → ProgramError → Type 0
CanEndWith arguments source source' sink sink' error =
    ((error ≡ Memory) × AcceptsNone sink sink')
    ⊎ (RequestHelp arguments × (error ≡ Write) × ((front : List ℕ) × Accepts sink sink' front))
    ⊎ ((action : Action) × RequestAction arguments action × ActionEnds action source source' sink sink' (Err error))

-- a sink accepted a prefix of a text, and the whole text if no call of the sink has failed
pub record WritesUnlessFailed (failed : Bool) (text : List ℕ) (sink sink' : SinkState) : Type 0 where
  pub front : List ℕ
  pub rest : List ℕ
  pub parts : text ≡ front ++ rest
  pub accepted : Accepts sink sink' front
  pub whole : failed ≡ false → rest ≡ []

-- The action of the arguments succeeded, and the notes on what was read are written to standard error, or a prefix of
-- them if it fails.
abbrev pub Succeeds : List Text → SourceState → SourceState → SinkState → SinkState → Bool → SinkState → SinkState
    → Type 0
Succeeds arguments source source' sink sink' failed errors errors' =
    (action : Action) × (notes : Notes) × RequestAction arguments action
    × ActionEnds action source source' sink sink' (Ok notes)
    × WritesUnlessFailed failed (notes_text notes) errors errors'

-- The text of an error that meets `is` and has this status is written, or a prefix of it if standard error fails.
abbrev pub ReportsErrorOf : ℕ → (ProgramError → Type 0) → Bool → SinkState → SinkState → Type 0
ReportsErrorOf status is failed sink sink' =
    (error : ProgramError) × (code_of (status_of error) ≡ status) × is error
    × WritesUnlessFailed failed (error_text error) sink sink'

-- a text for an invalid command line is written, or a prefix of it if standard error fails
abbrev pub ReportsUsageError : List Text → Bool → SinkState → SinkState → Type 0
ReportsUsageError arguments failed sink sink' =
    (text : List ℕ) × IsUsageErrorText arguments text × WritesUnlessFailed failed text sink sink'

-- nothing was written to the output, and the text of `Memory` to standard error, or a prefix of it if that fails
abbrev pub RunsOutOfMemory : SinkState → SinkState → Bool → SinkState → SinkState → Type 0
RunsOutOfMemory output output' failed errors errors' =
    AcceptsNone output output' × WritesUnlessFailed failed (error_text Memory) errors errors'
