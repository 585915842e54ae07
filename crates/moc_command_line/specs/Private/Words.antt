-- The subcommands of the table in terms of `clap`.
use Rattle.std.specs.Prelude.{◌≡◌, true, List, fold, [], map}
use Rattle.clap.specs.Words.{App, Rule, Text, with_subcommand}
use Rattle.moc_command_line.specs.CommandLine.{Parsers, AcceptNames, moc_app}
use Rattle.moc_command_line.specs.CommandLine.{program_shape, required_rule, subcommand_shape}
use Rattle.moc_command_line.specs.declared.subcommands.Argument.{Argument}
use Rattle.moc_command_line.specs.declared.subcommands.Subcommand.{Subcommand}

-- the rule of an argument
abbrev pub rule_of_argument : Argument → Rule
rule_of_argument a = record (required_rule a.name.now a.values) { required = a.required }

-- a subcommand with this name and these arguments
abbrev pub app_with : Text → List Argument → App
app_with name arguments = record { top = subcommand_shape name (map rule_of_argument arguments); subs = [] }

-- a subcommand with its arguments
abbrev pub app_of_subcommand : Subcommand → App
app_of_subcommand w = app_with w.name.now w.arguments.now

-- a program with one more subcommand
unfoldable pub app_with_subcommand : App → Subcommand → App
app_with_subcommand app word = with_subcommand app (app_of_subcommand word).top

-- the program without subcommands
abbrev pub bare_app : App
bare_app = record { top = record program_shape { is_leaf = true }; subs = [] }

-- the program with these subcommands
abbrev pub app_of_subcommands : List Subcommand → App
app_of_subcommands subcommands = fold app_with_subcommand bare_app subcommands

-- these are the subcommands of the program
pub record HasSubcommands (subcommands : List Subcommand) : Type 0 where
  pub parsers : Parsers
  pub take : AcceptNames parsers
  pub is : app_of_subcommands subcommands ≡ moc_app parsers
