use Rattle.moc_ranges.specs.Lemmas.Cells.{cells_ascend as law}
use Rattle.moc_ranges.proofs.theorems.cells_ascend.Goals as goal

pub returns : goal.returns
returns c = law
