use Rattle.moc_shared.specs.Clients.{IsClientOf}
use Rattle.map_tests.proofs.shared.apply_with_retries.Given as goal

abbrev pub invariant-loop : goal.invariant-loop
invariant-loop l = IsClientOf l.map l.client
