use Rattle.moc_shared.specs.Clients.{IsClientOf}
use Rattle.map_tests.proofs.shared.count_often.Given as goal

abbrev pub invariant-loop : goal.invariant-loop
invariant-loop g l = IsClientOf l.map l.client
