use Rattle.moc_ranges.specs.Lemmas.Cells.{cells_are}
use Rattle.moc_ranges.proofs.theorems.cells_are_cells.Goals as goal

pub returns : goal.returns
returns c = cells_are
