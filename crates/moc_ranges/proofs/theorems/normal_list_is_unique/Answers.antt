use Rattle.moc_ranges.specs.Lemmas.Ranges.{same_normal}
use Rattle.moc_ranges.proofs.theorems.normal_list_is_unique.Goals as goal

pub returns : goal.returns
returns c = same_normal
