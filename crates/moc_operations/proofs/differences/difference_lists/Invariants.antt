use Rattle.std.proofs.Common.{◌+◌, length}
use Rattle.moc_operations.specs.Private.Walks.{from_current}
use Rattle.moc_blocks.specs.Private.Built.{ranges_of}
use Rattle.moc_operations.proofs.Lacking.{IsDifferenceStep}
use Rattle.moc_operations.proofs.differences.difference_lists.Given as goal

abbrev pub invariant-loop-first : goal.invariant-loop-first
invariant-loop-first l = IsDifferenceStep (ranges_of l.built) (from_current l.first l.xs) (from_current l.second l.ys) l.fn.xs l.fn.ys

abbrev pub decreases-loop-first : goal.decreases-loop-first
decreases-loop-first l = length (from_current l.first l.xs) + length (from_current l.second l.ys)
