use Rattle.moc_parts.proofs.Flags.{none_flagged}
use Rattle.moc_parts.proofs.part.PartSet.none.Goals as goal

pub returns : goal.returns
returns c = none_flagged
