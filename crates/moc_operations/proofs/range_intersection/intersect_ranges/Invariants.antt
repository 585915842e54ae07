use Rattle.std.proofs.Common.{◌≡◌, ◌+◌, ◌-◌, ◌≤◌, ◌++◌, List, ℕ, length, take, drop}
use Rattle.moc_operations.specs.Private.Meeting.{CanIntersect, Intersects}
use Rattle.moc_operations.proofs.range_intersection.intersect_ranges.Given as goal

abbrev pub invariant-loop-first : goal.invariant-loop-first
invariant-loop-first g l = record {
  met : (before bx by : List (ℕ × ℕ)) → CanIntersect (l.xs ++ bx) (g.T.RangesByPosition.ranges l.others ++ by) before
      → Intersects (l.xs ++ bx) (drop l.first l.xs ++ bx) (g.T.RangesByPosition.ranges l.others ++ by) (drop l.second (g.T.RangesByPosition.ranges l.others) ++ by) before (before ++ take l.written l.out);
  buffer : length l.out ≡ length l.fn.out;
  first_within : l.first ≤ length l.xs;
  second_within : l.second ≤ length (g.T.RangesByPosition.ranges l.others);
  made_within : l.written ≤ length l.out;
  slice : l.written ≤ l.first + l.second;
}

abbrev pub decreases-loop-first : goal.decreases-loop-first
decreases-loop-first g l = length l.xs + length (g.T.RangesByPosition.ranges l.others) - (l.first + l.second)
