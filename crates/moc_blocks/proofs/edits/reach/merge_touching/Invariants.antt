use Rattle.std.proofs.Common.{length}
use Rattle.moc_blocks.proofs.Editing.{IsReaching}
use Rattle.moc_blocks.proofs.edits.reach.merge_touching.Given as goal

abbrev pub invariant-loop-rest : goal.invariant-loop-rest
invariant-loop-rest l = IsReaching l.start l.to l.fn.ranges l.end l.rest

abbrev pub decreases-loop-rest : goal.decreases-loop-rest
decreases-loop-rest l = length l.rest
