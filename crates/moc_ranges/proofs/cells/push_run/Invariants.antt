use Rattle.std.proofs.Common.{◌≡◌, ◌++◌, ◌≤◌, max}
use Rattle.moc_ranges.specs.Cells.{cells_of_range}
use Rattle.moc_ranges.proofs.cells.push_run.Given as goal

abbrev pub invariant-loop-index : goal.invariant-loop-index
invariant-loop-index l = record {
  pushed : l.cells.items ≡ l.fn.cells.items ++ cells_of_range l.order (l.first, l.index);
  within : l.index ≤ max l.first l.end;
}
