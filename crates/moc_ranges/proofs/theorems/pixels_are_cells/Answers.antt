use Rattle.moc_ranges.specs.Lemmas.Pixels.{pixel_count-cells, base_pixel_size-cell}
use Rattle.moc_ranges.proofs.theorems.pixels_are_cells.Goals as goal

pub returns : goal.returns
returns c = (pixel_count-cells, base_pixel_size-cell)
