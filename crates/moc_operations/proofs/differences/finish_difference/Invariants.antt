use Rattle.std.proofs.Common.{[], length}
use Rattle.moc_blocks.specs.Private.Built.{ranges_of}
use Rattle.moc_operations.specs.Private.Meeting.{Intersects, gaps_of}
use Rattle.moc_operations.proofs.differences.finish_difference.Given as goal

abbrev pub invariant-loop-built : goal.invariant-loop-built
invariant-loop-built l = Intersects l.fn.xs l.xs (gaps_of l.low []) (gaps_of l.low []) (ranges_of l.fn.built) (ranges_of l.built)

abbrev pub decreases-loop-built : goal.decreases-loop-built
decreases-loop-built l = length l.xs
