-- The program has the subcommands so far.
use Rattle.std.proofs.Common.{◌≡◌, take}
use Rattle.clap.specs.Words.{app_of}
use Rattle.moc_command_line.specs.Private.Words.{app_of_subcommands}
use Rattle.moc_command_line.proofs.commands.command_line.Given as goal

abbrev pub invariant-loop-word : goal.invariant-loop-word
invariant-loop-word l = app_of l.program ≡ app_of_subcommands (take l.word-index l.word-items)
