use Rattle.std.proofs.Common.{[], ◌∷◌}
use Rattle.moc_shared.proofs.SingleCommands.{at_err, failed_at_once}
use Rattle.moc_shared.proofs.map.SharedMap.apply_in_part.Goals as goal

pub returns-in_err-replies-clause-err : goal.returns-in_err-replies-clause-err
returns-in_err-replies-clause-err g c = at_err c.from_residual.result
    (failed_at_once c.args.self.now (c.args.command.now ∷ []) c.args.client.now.seat.me.0.mine)
