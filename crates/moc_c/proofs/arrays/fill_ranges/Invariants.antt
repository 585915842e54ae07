use Rattle.std.proofs.Common.{length}
use Rattle.moc_c.proofs.Filling.{IsFilling}
use Rattle.moc_c.proofs.arrays.fill_ranges.Given as goal

abbrev pub invariant-loop-from : goal.invariant-loop-from
invariant-loop-from l = IsFilling l.fn.out l.fn.ranges l.yielded l.from-iterator l.out l.at

abbrev pub decreases-loop-from : goal.decreases-loop-from
decreases-loop-from l = length l.from-iterator
