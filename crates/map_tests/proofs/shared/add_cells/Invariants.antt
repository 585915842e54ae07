use Rattle.moc_shared.specs.Clients.{IsClientOf}
use Rattle.map_tests.proofs.shared.add_cells.Given as goal

abbrev pub invariant-loop-j : goal.invariant-loop-j
invariant-loop-j l = IsClientOf l.map l.client
