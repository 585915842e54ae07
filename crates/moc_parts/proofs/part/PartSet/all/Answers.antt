use Rattle.moc_parts.proofs.Flags.{all_flagged}
use Rattle.moc_parts.proofs.part.PartSet.all.Goals as goal

pub returns : goal.returns
returns c b = all_flagged b
