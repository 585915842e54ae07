-- The cells of one order of a set, range by range.
use Rattle.std.specs.Prelude.{◌≡◌, ℕ, ◌+◌, ◌-◌, ◌*◌, ◌/◌, ◌<◌, ◌≤◌, ◌↔◌, true, ◌&&◌, if◌then◌else◌, nat_lt, List, []}
use Rattle.std.specs.Prelude.{◌∷◌, ◌++◌, drop, map, take}
use Rattle.std.specs.List.{filter, range_with_len}
use Rattle.moc_sphere.specs.CellNumber.{CellNumber, cell_number, cell_count, cell_size, max_order, order_count}
use Rattle.moc_blocks.specs.RangeList.{NumberSet}
use Rattle.moc_ranges.specs.Cells.{is_cell_of}
use Rattle.moc_operations.specs.Private.Meeting.{list_if}

-- the cells of one order of a set
unfoldable pub cells_at : NumberSet → ℕ → List CellNumber
cells_at a k = filter (is_cell_of a) (map (cell_number k) (range_with_len 0 (cell_count k)))

-- the cells of order k that are inside a range are those from `first` up to, but not including, `last`
pub record AreInnerCells (k from to first last : ℕ) : Type 0 where
  pub each : (i : ℕ) → ((first ≤ i) × (i < last)) ↔ ((from ≤ i * cell_size k) × ((i + 1) * cell_size k ≤ to))
  pub in_range : last ≤ cell_count k

-- the cells of a set have orders from `first` up to, but not including, `last`
pub record HasOrders (a : NumberSet) (first last : ℕ) : Type 0 where
  pub each : (k i : ℕ) → k ≤ max_order → i < cell_count k → is_cell_of a (cell_number k i) ≡ true
      → (first ≤ k) × (k < last)
  pub first_in_range : first ≤ order_count
  pub last_in_range : last ≤ order_count

-- the cells of order k that are inside a range, as a half-open range of indices
abbrev pub inner_cells_of : ℕ → ℕ × ℕ → ℕ × ℕ
inner_cells_of k range = ((range.0 + (cell_size k - 1)) / cell_size k, range.1 / cell_size k)

-- the two pieces of a run of cells of order k: before and after the parents whose cells are all in the run; if there is
-- no such parent, the whole run and an empty one
abbrev pub around_parents : ℕ → ℕ × ℕ → (ℕ × ℕ) × (ℕ × ℕ)
around_parents k run =
    if nat_lt 0 k && nat_lt ((run.0 + 3) / 4 * 4) (run.1 / 4 * 4)
    then ((run.0, (run.0 + 3) / 4 * 4), (run.1 / 4 * 4, run.1))
    else (run, (run.1, run.1))

-- the two pieces of the cells of order k that are inside a range
abbrev pub pieces_of : ℕ → ℕ × ℕ → (ℕ × ℕ) × (ℕ × ℕ)
pieces_of k range = around_parents k (inner_cells_of k range)

-- the list of a range, or the empty list if the range is empty
abbrev pub nonempty_range : ℕ × ℕ → List (ℕ × ℕ)
nonempty_range range = list_if (nat_lt range.0 range.1) range

-- the pieces of the cells of order k of each range in turn
abbrev pub pieces_along : ℕ → List (ℕ × ℕ) → List (ℕ × ℕ)
pieces_along k [] = []
pieces_along k (range ∷ ranges) =
    nonempty_range (pieces_of k range).0 ++ (nonempty_range (pieces_of k range).1 ++ pieces_along k ranges)

-- the ranges of a buffer of `count` that are not returned yet
abbrev pub remaining_ranges : List (ℕ × ℕ) → ℕ → ℕ → List (ℕ × ℕ)
remaining_ranges made given count = drop given (take count made)
