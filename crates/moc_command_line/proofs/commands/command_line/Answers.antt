use Rattle.std.proofs.Common.{ap₂, ◌∙◌, arith, refl}
use Rattle.moc_command_line.specs.Private.Words.{app_with_subcommand}
use Rattle.moc_command_line.proofs.Growing.{all_subcommands, subcommand_more}
use Rattle.moc_command_line.proofs.commands.command_line.Goals as goal

pub loop-word-preserved : goal.loop-word-preserved
loop-word-preserved c =
    c.in_ok-program-2.ensures ∙ ap₂ app_with_subcommand c.loop-word.invariant refl ∙ subcommand_more c.subcommands-word-items.result.now c.loop-word.word-index _ (omega arith)

pub returns : goal.returns
returns c =
    let table = c.subcommands-word-items.ensures in
    record {
      parsers = table.parsers;
      subcommands = table.take;
      is = c.loop-word.invariant ∙ all_subcommands c.subcommands-word-items.result.now c.loop-word.word-index (omega arith) ∙ table.is;
    }
