use Rattle.std.proofs.Common.{◌-◌, length, drop}
use Rattle.moc_blocks.specs.Private.Walks.{all_ranges}
use Rattle.moc_blocks.proofs.Passing.{IsPassing}
use Rattle.moc_blocks.proofs.runs.skip_runs.Given as goal

abbrev pub invariant-loop-place : goal.invariant-loop-place
invariant-loop-place g l = IsPassing l.range (all_ranges g.T.Run.ranges l.runs) (all_ranges g.T.Run.ranges (drop l.place l.runs)) l.common l.place (length l.runs)

abbrev pub decreases-loop-place : goal.decreases-loop-place
decreases-loop-place g l = length l.runs - l.place
