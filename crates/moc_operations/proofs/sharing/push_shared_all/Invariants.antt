use Rattle.std.proofs.Common.{length}
use Rattle.moc_blocks.specs.Private.Built.{ranges_of}
use Rattle.moc_operations.proofs.MovedBlocks.{IsCarrying}
use Rattle.moc_operations.proofs.sharing.push_shared_all.Given as goal

abbrev pub invariant-loop-carried : goal.invariant-loop-carried
invariant-loop-carried l =
    IsCarrying l.fn.xs l.xs l.limit (ranges_of l.fn.built) (ranges_of l.built)

abbrev pub decreases-loop-carried : goal.decreases-loop-carried
decreases-loop-carried l = length l.xs
