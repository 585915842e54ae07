use Rattle.moc_shared.specs.Clients.{IsClientOf}
use Rattle.example_threads.proofs.do_all.Given as goal

-- the client stays one of the map's
abbrev pub invariant-loop-batch : goal.invariant-loop-batch
invariant-loop-batch l = IsClientOf l.map l.client
