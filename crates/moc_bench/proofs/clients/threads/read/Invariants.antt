use Rattle.moc_shared.specs.Clients.{IsClientOf}
use Rattle.moc_bench.proofs.clients.threads.read.Given as goal

abbrev pub invariant-loop : goal.invariant-loop
invariant-loop l = IsClientOf l.map l.client
