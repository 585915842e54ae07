-- The invariant of the count of the runs that end at or before the limit.
use Rattle.moc_blocks.specs.Private.Walks.{IsCounting}
use Rattle.moc_blocks.proofs.runs.count_each.Given as goal

abbrev pub invariant-loop-run : goal.invariant-loop-run
invariant-loop-run g l = IsCounting g.T.Run.ranges l.runs l.limit l.low l.run-index l.place
