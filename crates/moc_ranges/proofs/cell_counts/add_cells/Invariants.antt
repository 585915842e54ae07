use Rattle.std.proofs.Common.{◌-◌, ◌<◌, ◌≤◌}
use Rattle.moc_blocks.specs.RangeList.{pixel_count}
use Rattle.moc_ranges.specs.Private.CellCounts.{AreAddedFrom}
use Rattle.moc_ranges.specs.Private.CellRuns.{AreInnerCells}
use Rattle.moc_ranges.proofs.cell_counts.add_cells.Given as goal

abbrev pub invariant-loop-order : goal.invariant-loop-order
invariant-loop-order l = record {
  inner : AreInnerCells (l.order - 1) l.from l.to l.first l.end;
  some : l.first < l.end;
  within : l.end ≤ pixel_count;
  least : 1 ≤ l.order;
  greatest : l.order ≤ 30;
  added : AreAddedFrom l.order l.from l.to l.fn.counts l.counts;
}
