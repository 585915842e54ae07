use Rattle.moc_ranges.proofs.CellOrders.{Scanning}
use Rattle.moc_ranges.proofs.cells.orders_with_cells.Given as goal

abbrev pub invariant-loop-from : goal.invariant-loop-from
invariant-loop-from l = record {
  continues : (goal.iterator-loop-from).can_next l.from-iterator × (goal.iterator-loop-from).is_finite l.from-iterator;
  scanning : Scanning l.ends l.widest l.from-iterator l.fn.ranges;
}
