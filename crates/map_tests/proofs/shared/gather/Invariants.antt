use Rattle.std.proofs.Common.{IfSome}
use Rattle.moc_shared.specs.Clients.{IsClientOf}
use Rattle.map_tests.proofs.shared.gather.Given as goal

abbrev pub invariant-loop-client : goal.invariant-loop-client
invariant-loop-client l = IfSome l.all (λ r. IsClientOf l.map r.0)
