use Rattle.std.proofs.Common.{ap₂, ◌||◌, ◌∙◌, arith}
use Rattle.clap.specs.Words.{with_rule}
use Rattle.moc_command_line.proofs.Growing.{argument_more}
use Rattle.moc_command_line.proofs.commands.command.Goals as goal

pub loop-argument-preserved : goal.loop-argument-preserved
loop-argument-preserved c =
    let added = c.in_ok-command.ensures in
    let argument = c.positional_argument.ensures in
    let before = c.loop-argument.invariant in
    (added.shape argument.local ∙ ap₂ with_rule before.0 argument.rule ∙ argument_more _ _ _ _ (omega arith), added.globals ∙ ap₂ (λ a b. a || b) before.1 argument.local)
