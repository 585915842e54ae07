use Rattle.std.proofs.Common.{inl, inr, refl, ap, ◌∙◌}
use Rattle.moc_c.specs.CallResults.{result_of}
use Rattle.moc_c.proofs.MapCalls.{applies_commands, not_parsed, fails_trying}
use Rattle.moc_c.proofs.client_state.ClientState.apply_batch.Goals as goal

pub returns-in-Ok-apply : goal.returns-in-Ok-apply
returns-in-Ok-apply c =
    let ends = c.in-Ok-apply.ensures in
    applies_commands c.args.self.now _ c.in-Some.member c.apply.new.self c.args.line.now c.in-Ok.batch c.success.result c.in-Some.is c.in-Ok.ensures ends.0
    (inl (c.in-Ok-apply.replies, ends.1, refl, c.success.ensures))

pub returns-in-Err : goal.returns-in-Err
returns-in-Err c =
    not_parsed c.args.self.now c.in-Some.member c.args.line.now c.in-Err.error c.line_error.result c.of-in-Err.result c.in-Some.is c.in-Err.ensures c.line_error.ensures c.of-in-Err.ensures

pub returns : goal.returns
returns c =
    let fails = c.in-Err-apply.ensures in
    applies_commands c.args.self.now _ c.in-Some.member c.apply.new.self c.args.line.now c.in-Ok.batch c.of-in-Err-apply.result c.in-Some.is c.in-Ok.ensures fails.0
    (inr (fails_trying c.in-Some.member c.apply.new.self c.in-Ok.batch c.in-Err-apply.error c.of-in-Err-apply.result fails.1 (c.of-in-Err-apply.ensures ∙ ap result_of c.from.ensures), refl))
