-- The cells of a set of pixels (MOC 2.0), and the pixels of cells.
use Rattle.std.specs.Prelude.{ℕ, zero, suc, ◌-◌, ◌/◌, ◌<◌, ◌≤◌, Bool, not, ◌&&◌, ◌||◌, List, [], ◌∷◌, ◌++◌}
use Rattle.std.specs.Prelude.{map, nat_eq, nat_le}
use Rattle.std.specs.FinSet as set
use Rattle.std.specs.List.{filter, flat_map, range_with_len, AllByRecursion}
use Rattle.moc_sphere.specs.CellNumber.{CellNumber, cell_number, cell_count, cell_size, order_count}
use Rattle.moc_blocks.specs.RangeList.{NumberSet}
use Rattle.moc_ranges.specs.Operations.{pixels, meets}

-- the pixels of a cell
unfoldable pub span : ℕ → ℕ → NumberSet
span order index = set.retain pixels (λ p. nat_eq (p / cell_size order) index)

-- the pixels of the cells of an order from the first to the last, both included
unfoldable pub spans : ℕ → ℕ → ℕ → NumberSet
spans order first last =
    set.retain pixels (λ p. nat_le first (p / cell_size order) && nat_le (p / cell_size order) last)

-- the pixels of a list of cells
unfoldable pub pixels_of : List CellNumber → NumberSet
pixels_of [] = set.empty
pixels_of (c ∷ cells) = set.union (span c.order c.index) (pixels_of cells)

-- degradation: the pixels whose cell of the given order has a pixel in common with the set
unfoldable pub degrade : NumberSet → ℕ → NumberSet
degrade a order = set.retain pixels (λ p. meets a (span order (p / cell_size order)))

-- the cell is one of the cells of the set: all its pixels are in the set, and it is of order 0 or not all pixels of its
-- parent are in the set
unfoldable pub is_cell_of : NumberSet → CellNumber → Bool
is_cell_of a c =
    set.is_subset (span c.order c.index) a
    && (nat_eq c.order 0 || not (set.is_subset (span (c.order - 1) (c.index / 4)) a))

-- the cells of the first orders, below `orders`, in ascending NUNIQ: by order, and in an order by index
unfoldable pub cells_below : ℕ → List CellNumber
cells_below zero = []
cells_below (suc k) = cells_below k ++ map (cell_number k) (range_with_len 0 (cell_count k))

-- the cells of a set, in ascending NUNIQ (MOC 2.0: the normal form)
unfoldable pub cells_of : NumberSet → List CellNumber
cells_of a = filter (is_cell_of a) (cells_below order_count)

-- the cells of an order whose indices are in a half-open range
abbrev pub cells_of_range : ℕ → ℕ × ℕ → List CellNumber
cells_of_range order range = map (cell_number order) (range_with_len range.0 (range.1 - range.0))

-- the cells of an order whose indices are in ranges
abbrev pub cells_in : ℕ → List (ℕ × ℕ) → List CellNumber
cells_in order ranges = flat_map (cells_of_range order) ranges

-- the orders of the cells are at least `from` and less than `to`
abbrev pub HaveOrders : ℕ → ℕ → List CellNumber → Type 0
HaveOrders from to cells = AllByRecursion (λ c. (from ≤ c.order) × (c.order < to)) cells
