-- The matches of a command line.
use Rattle.std.specs.Prelude.{◌≡◌, ◌⊎◌, List, Some, Result, Ok, Err}
use Rattle.moc_devices.specs.Devices.{SourceState, SinkState, AcceptsNone}
use Rattle.clap.specs.Words.{App, Row, Text, found_of, rows_of, subcommand_of, subcommand_rows_of}
use Rattle.clap.specs.declared.parser.matches.ArgMatches.{ArgMatches}
use Rattle.moc_command_line.specs.CommandLine.{IsCommandLine}
use Rattle.moc_conversion.specs.declared.notes.Notes.{Notes}
use Rattle.moc_cli.specs.Actions.{ActionEnds}
use Rattle.moc_cli.specs.Requests.{SelectsAction}
use Rattle.moc_cli.specs.declared.action.Action.{Action}
use Rattle.moc_cli.specs.declared.status.ProgramError.{ProgramError}
use Rattle.moc_cli.specs.declared.status.ProgramError.TheVariants.{Memory}

-- the values of a subcommand
abbrev pub values_of : ArgMatches → List Row
values_of matches = rows_of (found_of matches)

-- the matched subcommand, with its values, asks for an action
abbrev pub IsRequestedIn : ArgMatches → Action → Type 0
IsRequestedIn matches action =
    (name : Text) × (values : List Row) × (subcommand_rows_of matches ≡ Some (name, values))
    × SelectsAction name values action

-- the matched subcommand, with its values, is the one that `clap` parses from the arguments
pub record AreParsedAs (arguments : List Text) (matches : ArgMatches) : Type 0 where
  pub app : App
  pub line : IsCommandLine app
  pub are : subcommand_rows_of matches ≡ subcommand_of app arguments

-- the action of the matches ends with this result; or an allocation failed before anything was written
abbrev pub MatchedEnd : ArgMatches → SourceState → SourceState → SinkState → SinkState
    → Result Notes ProgramError → Type 0
MatchedEnd matches source source' sink sink' (Ok notes) =
    (action : Action) × IsRequestedIn matches action × ActionEnds action source source' sink sink' (Ok notes)
MatchedEnd matches source source' sink sink' (Err error) =
    ((error ≡ Memory) × AcceptsNone sink sink')
    ⊎ ((action : Action) × IsRequestedIn matches action × ActionEnds action source source' sink sink' (Err error))
