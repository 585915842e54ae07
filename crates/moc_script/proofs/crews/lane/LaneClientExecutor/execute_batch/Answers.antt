-- The batch is one more call.
use Rattle.std.proofs.Common.{refl}
use Rattle.moc_script.proofs.LaneLemmas.{if_ok, makes_call}
use Rattle.moc_script.proofs.crews.lane.LaneClientExecutor.execute_batch.Goals as goal

pub returns-clause-replies : goal.returns-clause-replies
returns-clause-replies g c =
    let old = c.args.self.now in
    if_ok c.apply.result (λ replies effect. (refl, makes_call old.map.now old.client c.apply.new.client c.args.batch.now replies c.apply.ensures.number effect)) c.apply.ensures.ok
