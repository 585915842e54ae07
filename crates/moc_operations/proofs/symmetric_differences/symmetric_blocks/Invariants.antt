use Rattle.std.proofs.Common.{◌+◌, length}
use Rattle.moc_blocks.specs.Private.Built.{ranges_of}
use Rattle.moc_operations.specs.Private.SymmetricBounds.{IsBoundsStep}
use Rattle.moc_operations.proofs.symmetric_differences.symmetric_blocks.Given as goal

abbrev pub invariant-loop-built : goal.invariant-loop-built
invariant-loop-built l = IsBoundsStep (ranges_of l.built) l.opened.bound l.opened.first l.opened.second l.xs l.ys l.fn.xs l.fn.ys

abbrev pub decreases-loop-built : goal.decreases-loop-built
decreases-loop-built l = length l.xs + length l.ys
