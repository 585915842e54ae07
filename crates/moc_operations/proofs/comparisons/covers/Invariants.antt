use Rattle.std.proofs.Common.{◌+◌, length}
use Rattle.moc_operations.specs.Private.Walks.{from_current}
use Rattle.moc_operations.proofs.Walking.{IsHolding}
use Rattle.moc_operations.proofs.comparisons.covers.Given as goal

abbrev pub invariant-loop-second : goal.invariant-loop-second
invariant-loop-second l = IsHolding (from_current l.first l.xs) (from_current l.second l.ys) l.fn.xs l.fn.ys

abbrev pub decreases-loop-second : goal.decreases-loop-second
decreases-loop-second l = length (from_current l.first l.xs) + length (from_current l.second l.ys)
