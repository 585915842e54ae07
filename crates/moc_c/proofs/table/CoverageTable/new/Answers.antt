use Rattle.moc_c.proofs.Keys.{none_at_first}
use Rattle.moc_c.proofs.table.CoverageTable.new.Goals as goal

pub invariant_of-result : goal.invariant_of-result
invariant_of-result c = rw c.new.ensures (none_at_first 0)
