use Rattle.std.proofs.Common.{subst, ◌<◌, ◌^◌}
use Rattle.moc_parts.specs.Batches.{batches}
use Rattle.moc_steps.specs.Theorems.{IsReachable}
use Rattle.moc_steps.specs.Orders.{steps_left}
use Rattle.moc_steps.specs.Played.{BatchWorld}
use Rattle.moc_steps.proofs.Preserved.{clients_of}
use Rattle.moc_steps.proofs.Draining.{short_way}
use Rattle.moc_steps.proofs.world.World.prove_reachable.Goals as goal

pub returns-clause-reached : goal.returns-clause-reached
returns-clause-reached c = subst (λ w. IsReachable batches w) c.self.view_is c.self.invariant.reached

pub returns-clause-short : goal.returns-clause-short
returns-clause-short c = subst (λ (w : BatchWorld). steps_left batches w.locks.clients < 2 ^ 64) c.self.view_is (short_way (clients_of c.self.inside.clients) c.self.invariant.small)
