use Rattle.std.proofs.Common.{refl}
use Rattle.moc_command_line.specs.CommandLine.{moc_app}
use Rattle.moc_command_line.specs.Private.Words.{app_with_subcommand}
use Rattle.moc_command_line.proofs.subcommands.subcommands.Goals as goal

pub returns : goal.returns
unfolding moc_app app_with_subcommand
returns c = record {
  parsers = record { format = _; choice = _; operation = _; numbering = _ };
  take = record { format = (_, refl, refl); choice = (_, refl, refl); operation = (_, refl, refl); numbering = (_, refl, refl) };
  is = refl;
}
