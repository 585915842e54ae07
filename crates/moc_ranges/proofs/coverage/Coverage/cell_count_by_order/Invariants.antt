use Rattle.moc_ranges.specs.Private.CellCounts.{IsCounting}
use Rattle.moc_ranges.proofs.coverage.Coverage.cell_count_by_order.Given as goal

abbrev pub invariant-loop-from : goal.invariant-loop-from
invariant-loop-from l = record {
  continues : (goal.iterator-loop-from).can_next l.from-iterator × (goal.iterator-loop-from).is_finite l.from-iterator;
  counting : IsCounting l.self l.from-iterator l.counts;
}
