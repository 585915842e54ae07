use Rattle.moc_ranges.specs.Lemmas.Sets.{complement_involutive}
use Rattle.moc_ranges.proofs.theorems.complement_twice_is_the_set.Goals as goal

pub returns : goal.returns
returns c = complement_involutive
