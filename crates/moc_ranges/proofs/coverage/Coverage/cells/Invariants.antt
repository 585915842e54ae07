use Rattle.std.proofs.Common.{◌≡◌, ◌≤◌, max}
use Rattle.std.specs.List.{filter}
use Rattle.moc_ranges.specs.Cells.{is_cell_of, cells_below}
use Rattle.moc_ranges.proofs.coverage.Coverage.cells.Given as goal

abbrev pub invariant-loop-level : goal.invariant-loop-level
invariant-loop-level l = record {
  found : l.cells.items ≡ filter (is_cell_of l.self) (cells_below l.level);
  within : l.level ≤ max l.first l.end;
}
