use Rattle.std.proofs.Common.{All, IfSome}
use Rattle.moc_shared.specs.Clients.{IsClientOf}
use Rattle.map_tests.proofs.rounds.common.pairs_of.Given as goal

-- the clients so far belong to the map
abbrev pub invariant-loop-client : goal.invariant-loop-client
invariant-loop-client l = IfSome l.first (IsClientOf l.map) × All (λ p. IsClientOf l.map p.0 × IsClientOf l.map p.1) l.pairs.items
