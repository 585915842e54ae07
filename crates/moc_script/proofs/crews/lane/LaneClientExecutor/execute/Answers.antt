-- The command is one more call.
use Rattle.std.proofs.Common.{refl, [], ◌∷◌}
use Rattle.moc_script.proofs.LaneLemmas.{if_ok, makes_call}
use Rattle.moc_script.proofs.crews.lane.LaneClientExecutor.execute.Goals as goal

pub returns-clause-reply : goal.returns-clause-reply
returns-clause-reply g c =
    let old = c.args.self.now in
    if_ok c.answer.result (λ reply effect. (refl, makes_call old.map.now old.client c.answer.new.client (c.args.command ∷ []) (reply ∷ []) c.answer.ensures.number effect)) c.answer.ensures.ok
