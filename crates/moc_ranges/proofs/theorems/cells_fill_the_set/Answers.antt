use Rattle.moc_ranges.specs.Lemmas.{cells_fill}
use Rattle.moc_ranges.proofs.theorems.cells_fill_the_set.Goals as goal

pub returns : goal.returns
returns c = cells_fill
