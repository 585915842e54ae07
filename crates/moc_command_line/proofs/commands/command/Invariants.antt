-- The command has the rules of the arguments so far.
use Rattle.std.proofs.Common.{◌≡◌, false, take}
use Rattle.clap.specs.Words.{app_of}
use Rattle.clap.specs.declared.builder.command.Command.TheViews.{out-Command as fields_of}
use Rattle.moc_command_line.specs.Private.Words.{app_with}
use Rattle.moc_command_line.proofs.commands.command.Given as goal

abbrev pub invariant-loop-argument : goal.invariant-loop-argument
invariant-loop-argument l =
    (app_of l.command ≡ app_with l.word.name.now (take l.argument-index l.word.arguments.now))
    × ((fields_of l.command).has_globals ≡ false)
