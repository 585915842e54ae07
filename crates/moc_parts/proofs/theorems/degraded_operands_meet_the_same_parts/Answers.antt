use Rattle.moc_parts.proofs.Locality.{degraded_meets_same_parts}
use Rattle.moc_parts.proofs.theorems.degraded_operands_meet_the_same_parts.Goals as goal

pub returns : goal.returns
returns c = degraded_meets_same_parts
