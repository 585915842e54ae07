use Rattle.moc_text.proofs.UniqLines.{uniq_some}
use Rattle.moc_text.proofs.uniq.capacity_for.Goals as goal

pub ilog10-requires : goal.ilog10-requires
ilog10-requires c = rw c.uniq.ensures (uniq_some c.in-Some.last.now)
