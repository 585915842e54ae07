-- The numbers of pixels, as numbers of cells.
use Rattle.std.specs.Prelude.{◌≡◌}
use Rattle.std.proofs.Common.{refl}
use Rattle.moc_sphere.specs.CellNumber.{cell_count, cell_size}
use Rattle.moc_ranges.specs.Operations.{base_pixel_size}
use Rattle.moc_blocks.specs.RangeList.{pixel_count}

-- the pixels are the cells of order 29
pub pixel_count-cells : pixel_count ≡ cell_count 29
pixel_count-cells = refl

-- a base pixel is a cell of order 0
pub base_pixel_size-cell : base_pixel_size ≡ cell_size 0
unfolding cell_size
base_pixel_size-cell = refl
