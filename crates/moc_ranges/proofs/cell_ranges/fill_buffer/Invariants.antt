use Rattle.std.proofs.Common.{◌≡◌, ◌≤◌, ◌++◌, length, take}
use Rattle.moc_blocks.specs.RangeList.{IsNormal}
use Rattle.moc_ranges.specs.Private.CellRuns.{pieces_along}
use Rattle.moc_ranges.proofs.cell_ranges.fill_buffer.Given as goal

abbrev pub invariant-loop-count : goal.invariant-loop-count
invariant-loop-count l = record {
  normal : IsNormal l.ranges;
  buffer : take l.count l.buffer ++ pieces_along l.order l.ranges ≡ pieces_along l.order l.fn.ranges;
  room : length l.buffer ≡ length l.fn.buffer;
  within : l.count ≤ length l.buffer;
}

abbrev pub decreases-loop-count : goal.decreases-loop-count
decreases-loop-count l = length l.ranges
