use Rattle.moc_shared.specs.Clients.{IsClientOf}
use Rattle.map_tests.proofs.rounds.common.take_turns.Given as goal

-- both clients belong to the map
abbrev pub invariant-loop-turn : goal.invariant-loop-turn
invariant-loop-turn g l = IsClientOf l.map l.pair.0 × IsClientOf l.map l.pair.1
