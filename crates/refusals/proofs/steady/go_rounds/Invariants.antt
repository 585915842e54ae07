use Rattle.std.specs.Prelude.{All}
use Rattle.moc_shared.specs.Clients.{IsClientOf}
use Rattle.refusals.proofs.steady.go_rounds.Given as goal

abbrev pub invariant-loop : goal.invariant-loop
invariant-loop l = IsClientOf l.map l.first × All (IsClientOf l.map) l.clients.items
