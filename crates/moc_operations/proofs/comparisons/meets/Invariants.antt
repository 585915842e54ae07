use Rattle.std.proofs.Common.{◌+◌, length}
use Rattle.moc_operations.specs.Private.Walks.{from_current}
use Rattle.moc_operations.proofs.Walking.{IsCounting}
use Rattle.moc_operations.proofs.comparisons.meets.Given as goal

abbrev pub invariant-loop-first : goal.invariant-loop-first
invariant-loop-first l = IsCounting 0 (from_current l.first l.xs) (from_current l.second l.ys) l.fn.xs l.fn.ys

abbrev pub decreases-loop-first : goal.decreases-loop-first
decreases-loop-first l = length (from_current l.first l.xs) + length (from_current l.second l.ys)
