use Rattle.std.proofs.Common.{length, take, drop, ◌-◌}
use Rattle.moc_blocks.proofs.Stepping.{IsNarrowed}
use Rattle.moc_lists.proofs.steps.find_range.Given as goal

abbrev pub invariant-loop-low : goal.invariant-loop-low
invariant-loop-low l = IsNarrowed (take l.low l.ranges) (drop l.high l.ranges) l.pixel l.low l.high (length l.ranges) l.fn.steps l.steps

abbrev pub decreases-loop-low : goal.decreases-loop-low
decreases-loop-low l = l.high - l.low
