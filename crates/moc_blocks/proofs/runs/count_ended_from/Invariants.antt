use Rattle.moc_blocks.specs.Private.Walks.{IsSkipping}
use Rattle.moc_blocks.proofs.runs.count_ended_from.Given as goal

abbrev pub invariant-loop-size : goal.invariant-loop-size
invariant-loop-size g l = IsSkipping g.T.Run.ranges l.runs l.limit l.low l.size

abbrev pub decreases-loop-size : goal.decreases-loop-size
decreases-loop-size g l = l.size
