-- The action that the command line asks for.
use Rattle.std.specs.Prelude.{◌≡◌, ℕ, List, Option, Some, codes, option_map}
use Rattle.std.specs.Borrow.{Bor}
use Rattle.clap.specs.Words.{App, Row, Text, first_of, one_of, subcommand_of}
use Rattle.moc_sphere.specs.Names.{Spells}
use Rattle.moc_forms.specs.Combining.{operation_name}
use Rattle.moc_forms.specs.Finding.{choice_name}
use Rattle.moc_forms.specs.Formats.{format_name}
use Rattle.moc_forms.specs.declared.finding.FormatChoice.{FormatChoice}
use Rattle.moc_forms.specs.declared.legend.PictureNames.{PictureNames}
use Rattle.moc_forms.specs.declared.changing.Change.TheVariants.{Degrade, Complement}
use Rattle.moc_lines.specs.Numberings.{numbering_name}
use Rattle.moc_script.specs.Crews.{lane_count}
use Rattle.moc_command_line.specs.CommandLine.{IsCommandLine}
use Rattle.moc_cli.specs.declared.action.Action.{Action}
use Rattle.moc_cli.specs.declared.action.Action.TheVariants.{Run, Play, Crew, Number, Renumber, Convert, Check}
use Rattle.moc_cli.specs.declared.action.Action.TheVariants.{Describe, Draw, Change, Combine, Faults}
use Rattle.moc_cli.specs.declared.action.NumberConversion.TheVariants.{Ring, Nest, Uniq, Cell, Near}

-- the argument with this name has this value
abbrev pub HasValue : Text → List Row → Text → Type 0
HasValue name values value = first_of name values ≡ Some value

-- the value of the argument with this name spells a number
abbrev pub HasNumber : Text → List Row → ℕ → Type 0
HasNumber name values n = (text : Text) × (one_of name values ≡ Some text) × Spells text n

-- the argument `ORDER` spells an order
abbrev pub HasOrder : List Row → ℕ → Type 0
HasOrder values order = HasNumber (codes "ORDER") values order

-- the argument `CELL` spells the number of a cell
abbrev pub HasCell : List Row → ℕ → Type 0
HasCell values cell = HasNumber (codes "CELL") values cell

-- the argument `FORM` is the name of a choice of a format
abbrev pub HasChoice : List Row → FormatChoice → Type 0
HasChoice values choice = HasValue (codes "FORM") values (choice_name choice)

-- the argument with this name has this value, or is left out
abbrev pub HasOptional : Text → List Row → Option (Bor Text) → Type 0
HasOptional name values value = first_of name values ≡ option_map (λ text. text.now) value

-- the arguments `FIRST` and `SECOND` are these names
abbrev pub HasNames : List Row → PictureNames → Type 0
HasNames values names =
    HasOptional (codes "FIRST") values names.first × HasOptional (codes "SECOND") values names.second

-- a subcommand with these values asks for an action
abbrev pub SelectsAction : Text → List Row → Action → Type 0
SelectsAction name values Run = name ≡ codes "run"
SelectsAction name values Play = name ≡ codes "play"
SelectsAction name values (Crew lanes) = (name ≡ codes "crew") × HasNumber (codes "N") values (lane_count lanes)
SelectsAction name values (Number (Ring order cell)) =
    (name ≡ codes "ring") × HasOrder values order × HasCell values cell
SelectsAction name values (Number (Nest order ring)) =
    (name ≡ codes "nest") × HasOrder values order × HasNumber (codes "RING") values ring
SelectsAction name values (Number (Uniq order cell)) =
    (name ≡ codes "uniq") × HasOrder values order × HasCell values cell
SelectsAction name values (Number (Cell uniq)) = (name ≡ codes "cell") × HasNumber (codes "UNIQ") values uniq
SelectsAction name values (Number (Near order cell)) =
    (name ≡ codes "near") × HasOrder values order × HasCell values cell
SelectsAction name values (Renumber r) =
    (name ≡ codes "renumber") × HasValue (codes "FROM") values (numbering_name r.from)
    × HasValue (codes "TO") values (numbering_name r.to) × HasOrder values r.order
SelectsAction name values (Convert from to) =
    (name ≡ codes "convert") × HasValue (codes "FROM") values (format_name from)
    × HasValue (codes "TO") values (format_name to)
SelectsAction name values (Check choice) = (name ≡ codes "check") × HasChoice values choice
SelectsAction name values (Describe choice) = (name ≡ codes "describe") × HasChoice values choice
SelectsAction name values (Draw choice names) =
    (name ≡ codes "draw") × HasChoice values choice × HasNames values names
SelectsAction name values (Change (Degrade order) choice) =
    (name ≡ codes "degrade") × HasOrder values order × HasChoice values choice
SelectsAction name values (Change Complement choice) = (name ≡ codes "complement") × HasChoice values choice
SelectsAction name values (Combine operation choice) =
    (name ≡ codes "combine") × HasValue (codes "OP") values (operation_name operation)
    × HasChoice values choice
SelectsAction name values Faults = name ≡ codes "faults"

-- `clap` parses the arguments as a subcommand with values that select the action
pub record RequestAction (arguments : List Text) (action : Action) : Type 0 where
  pub app : App
  pub line : IsCommandLine app
  pub name : Text
  pub values : List Row
  pub are : subcommand_of app arguments ≡ Some (name, values)
  pub selects : SelectsAction name values action
