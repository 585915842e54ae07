use Rattle.std.proofs.Common.{◌≡◌, ◌++◌, length}
use Rattle.moc_blocks.specs.Private.Built.{ranges_of}
use Rattle.moc_operations.specs.Private.SymmetricBounds.{bounds_of}
use Rattle.moc_operations.proofs.symmetric_bounds.push_pairs.Given as goal

abbrev pub invariant-loop-rest : goal.invariant-loop-rest
invariant-loop-rest l = bounds_of (ranges_of l.built) ++ l.rest ≡ bounds_of (ranges_of l.fn.built) ++ l.bounds

abbrev pub decreases-loop-rest : goal.decreases-loop-rest
decreases-loop-rest l = length l.rest
