use Rattle.std.proofs.Common.{ap, ◌∙◌}
use Rattle.std.proofs.lemmas.Result.{IfOk-weaker}
use Rattle.clap.specs.Words.{App, app_of, with_subcommand}
use Rattle.moc_command_line.specs.Private.Words.{app_with_subcommand}
use Rattle.moc_command_line.proofs.commands.add_subcommand.Goals as goal

pub returns : goal.returns
unfolding app_with_subcommand
returns c =
    let word = c.in_ok-command.ensures in
    IfOk-weaker c.subcommand.result _ _ (λ r h. h.shape word.local ∙ ap (λ (w : App). with_subcommand (app_of c.args.program) w.top) word.app) c.subcommand.ensures
