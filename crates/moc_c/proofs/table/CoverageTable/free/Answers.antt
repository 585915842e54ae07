use Rattle.moc_c.proofs.Keys.{none_after_free}
use Rattle.moc_c.proofs.table.CoverageTable.free.Goals as goal

pub invariant_of-self : goal.invariant_of-self
invariant_of-self c = rw c.remove.ensures.removed (none_after_free c.self.inside.sets c.self.inside.next c.args.id c.self.invariant)
