use Rattle.moc_shared.specs.Clients.{IsClientOf}
use Rattle.moc_bench.proofs.clients.by_one_client.Given as goal

abbrev pub invariant-loop-batch : goal.invariant-loop-batch
invariant-loop-batch g l = IsClientOf l.map l.client
