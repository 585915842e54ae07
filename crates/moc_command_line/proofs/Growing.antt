-- One more subcommand of the table, and one more argument of a subcommand.
use Rattle.std.proofs.Common.{◌≡◌, ℕ, ◌+◌, ◌<◌, ◌≤◌, List, [], length, take, get_or, sym, ap}
use Rattle.std.proofs.lemmas.List.{map_more, take_all}
use Rattle.std.proofs.lemmas.List.Sums.{fold_more}
use Rattle.clap.specs.Words.{App, Rule, Text, with_rule}
use Rattle.moc_command_line.specs.CommandLine.{subcommand_shape}
use Rattle.moc_command_line.specs.Private.Words.{app_of_subcommands, app_with, app_with_subcommand, bare_app, rule_of_argument}
use Rattle.moc_command_line.specs.declared.subcommands.Argument.{Argument}
use Rattle.moc_command_line.specs.declared.subcommands.Subcommand.{Subcommand}

abbrev app_of_rules : Text → List Rule → App
app_of_rules name rules = record { top = subcommand_shape name rules; subs = [] }

pub argument_more : (name : Text) (arguments : List Argument) (i : ℕ) (d : Argument) → i < length arguments
    → with_rule (app_with name (take i arguments)) (rule_of_argument (get_or arguments i d)) ≡ app_with name (take (i + 1) arguments)
argument_more name arguments i d h = sym (ap (app_of_rules name) (map_more rule_of_argument arguments i d h))

pub subcommand_more : (subcommands : List Subcommand) (i : ℕ) (d : Subcommand) → i < length subcommands
    → app_with_subcommand (app_of_subcommands (take i subcommands)) (get_or subcommands i d) ≡ app_of_subcommands (take (i + 1) subcommands)
subcommand_more subcommands i d h = sym (fold_more app_with_subcommand bare_app subcommands i d h)

pub all_subcommands : (subcommands : List Subcommand) (i : ℕ) → length subcommands ≤ i → app_of_subcommands (take i subcommands) ≡ app_of_subcommands subcommands
all_subcommands subcommands i h = ap app_of_subcommands (take_all i subcommands h)
