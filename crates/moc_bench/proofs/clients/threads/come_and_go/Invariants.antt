use Rattle.moc_shared.specs.Clients.{IsClientOf}
use Rattle.moc_bench.proofs.clients.threads.come_and_go.Given as goal

abbrev pub invariant-loop : goal.invariant-loop
invariant-loop g l = IsClientOf l.map l.client
