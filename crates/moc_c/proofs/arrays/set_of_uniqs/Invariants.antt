use Rattle.moc_c.proofs.Gathering.{AreGathered}
use Rattle.moc_c.proofs.arrays.set_of_uniqs.Given as goal

abbrev pub invariant-loop-at : goal.invariant-loop-at
invariant-loop-at l = AreGathered l.uniqs l.at l.builder
