use Rattle.moc_ranges.proofs.Deepest.{Bounding}
use Rattle.moc_ranges.proofs.cells.deepest_order.Given as goal

abbrev pub invariant-loop-from : goal.invariant-loop-from
invariant-loop-from l = record {
  continues : (goal.iterator-loop-from).can_next l.from-iterator × (goal.iterator-loop-from).is_finite l.from-iterator;
  bounding : Bounding l.bounds l.from-iterator l.fn.ranges;
}
