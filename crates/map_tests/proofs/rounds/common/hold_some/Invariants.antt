use Rattle.moc_shared.specs.Clients.{IsClientOf}
use Rattle.map_tests.proofs.rounds.common.hold_some.Given as goal

abbrev pub invariant-loop : goal.invariant-loop
invariant-loop l = IsClientOf l.map l.client
