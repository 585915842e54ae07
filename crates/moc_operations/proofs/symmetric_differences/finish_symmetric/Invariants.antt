use Rattle.std.proofs.Common.{◌++◌, length}
use Rattle.moc_operations.specs.Private.Walks.{from_current}
use Rattle.moc_blocks.specs.Private.Built.{ranges_of}
use Rattle.moc_operations.proofs.Differing.{IsFinishing}
use Rattle.moc_operations.proofs.symmetric_differences.finish_symmetric.Given as goal

abbrev pub invariant-loop-next : goal.invariant-loop-next
invariant-loop-next l = IsFinishing (ranges_of l.built) (from_current l.next l.xs) (ranges_of l.fn.built ++ from_current l.fn.first l.fn.xs)

abbrev pub decreases-loop-next : goal.decreases-loop-next
decreases-loop-next l = length (from_current l.next l.xs)
