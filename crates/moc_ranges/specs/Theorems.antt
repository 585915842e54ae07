-- The theorems on coverages and their cells.
use Rattle.std.specs.Prelude.{◌≡◌, ℕ, List, map}
use Rattle.std.specs.List.{AllByRecursion}
use Rattle.std.specs.List.Sorted.{IsStrictlyIncreasing}
use Rattle.moc_sphere.specs.CellNumber.{IsCell, cell_count, cell_size, uniq_of, max_order}
use Rattle.moc_blocks.specs.RangeList.{NumberSet, IsNormal, pixel_count, set_of}
use Rattle.moc_ranges.specs.Operations.{base_pixel_size, pixels, complement, IsWithin}
use Rattle.moc_ranges.specs.Cells.{cells_of, pixels_of}

-- two normal range lists of the same set are equal
abbrev pub NormalListIsUnique : Type 0
NormalListIsUnique =
    (rs ss : List (ℕ × ℕ)) → IsNormal rs → IsNormal ss → set_of rs ≡ set_of ss → rs ≡ ss

-- the cells of a set are cells: the order is at most 29, and the index is less than the number of cells of the order
abbrev pub CellsAreCells : Type 0
CellsAreCells = (a : NumberSet) → AllByRecursion IsCell (cells_of a)

-- the cells of a set of pixels have exactly the pixels of the set
abbrev pub CellsFillTheSet : Type 0
CellsFillTheSet = (a : NumberSet) → IsWithin a pixels → pixels_of (cells_of a) ≡ a

-- the cells of a set are in ascending NUNIQ
abbrev pub CellsAscend : Type 0
CellsAscend = (a : NumberSet) → IsStrictlyIncreasing (map uniq_of (cells_of a))

-- the complement of the complement of a set of pixels is the set
abbrev pub ComplementTwiceIsTheSet : Type 0
ComplementTwiceIsTheSet = (a : NumberSet) → IsWithin a pixels → complement (complement a) ≡ a

-- the pixels are the cells of order 29, and a base pixel has the pixels of a cell of order 0
abbrev pub PixelsAreCells : Type 0
PixelsAreCells = (pixel_count ≡ cell_count max_order) × (base_pixel_size ≡ cell_size 0)
