use Rattle.std.proofs.Common.{◌≤◌}
use Rattle.moc_ranges.specs.Cells.{cells_of}
use Rattle.moc_text.proofs.Runs.{AreBelow}
use Rattle.moc_text.proofs.ascii.writing.deepest_of.Given as goal

abbrev pub invariant-loop-level : goal.invariant-loop-level
invariant-loop-level l = record {
  below : AreBelow l.level (cells_of l.set);
  within : l.level ≤ l.orders.1;
}

abbrev pub decreases-loop-level : goal.decreases-loop-level
decreases-loop-level l = l.level
