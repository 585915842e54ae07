use Rattle.std.proofs.Common.{◌∷◌, [], inl, inr, refl, ap, ◌∙◌}
use Rattle.moc_parts.specs.CellCommands.{command_on_cell}
use Rattle.moc_c.specs.CallResults.{result_of}
use Rattle.moc_c.proofs.MapCalls.{applies_commands, fails_trying}
use Rattle.moc_c.proofs.client_state.ClientState.apply_on_cell.Goals as goal

pub returns-in-Ok : goal.returns-in-Ok
returns-in-Ok c = λ line is.
    let ends = c.in-Ok.ensures in
    applies_commands c.args.self.now _ c.in-Some.member c.apply_cell.new.self line (command_on_cell c.args.command.now ∷ []) c.success.result c.in-Some.is is ends.0
    (inl (c.in-Ok.replies, ends.1, refl, c.success.ensures))

pub returns-in-Err : goal.returns-in-Err
returns-in-Err c = λ line is.
    let fails = c.in-Err.ensures in
    applies_commands c.args.self.now _ c.in-Some.member c.apply_cell.new.self line (command_on_cell c.args.command.now ∷ []) c.of-in-Err.result c.in-Some.is is fails.0
    (inr (fails_trying c.in-Some.member c.apply_cell.new.self (command_on_cell c.args.command.now ∷ []) c.in-Err.error c.of-in-Err.result fails.1 (c.of-in-Err.ensures ∙ ap result_of c.from.ensures), refl))
