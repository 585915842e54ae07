use Rattle.std.proofs.Common.{◌≡◌, ◌++◌, length}
use Rattle.moc_blocks.specs.Private.Built.{ranges_of}
use Rattle.moc_lists.proofs.builder.ListBuilder.push_all.Given as goal

abbrev pub invariant-loop-rest : goal.invariant-loop-rest
invariant-loop-rest l = ranges_of l.self ++ l.rest ≡ ranges_of l.fn.self ++ l.fn.ranges

abbrev pub decreases-loop-rest : goal.decreases-loop-rest
decreases-loop-rest l = length l.rest
