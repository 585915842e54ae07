-- The number of cells of each order of one range, and of several.
use Rattle.std.specs.Prelude.{◌≡◌, ℕ, ◌+◌, ◌<◌, ◌≤◌, List, [], ◌∷◌, length, slice_index}
use Rattle.moc_blocks.specs.RangeList.{NumberSet, IsNormal, set_of}
use Rattle.moc_ranges.specs.Private.CellRuns.{cells_at}
use Rattle.moc_sphere.specs.CellNumber.{max_order, order_count}

-- the number of cells of order k of a set
unfoldable pub cell_count_at : NumberSet → ℕ → ℕ
cell_count_at a k = length (cells_at a k)

-- the number of cells of order k of one range
abbrev pub range_cell_count : ℕ → ℕ → ℕ → ℕ
range_cell_count from to k = cell_count_at (set_of ((from, to) ∷ [])) k

-- the counts are the numbers of cells of each order of a set
pub record AreCellCounts (a : NumberSet) (counts : List ℕ) : Type 0 where
  pub size : length counts ≡ order_count
  pub each : (k : ℕ) → k ≤ max_order → slice_index counts k ≡ cell_count_at a k

-- the cells of a range are added to the counts of the orders from `level` on; the other counts are unchanged
pub record AreAddedFrom (level from to : ℕ) (old new : List ℕ) : Type 0 where
  pub size : length new ≡ order_count
  pub added : (k : ℕ) → level ≤ k → k ≤ max_order → slice_index new k ≡ slice_index old k + range_cell_count from to k
  pub unchanged : (k : ℕ) → k < level → slice_index new k ≡ slice_index old k

-- the counts and the cells of the ranges that remain add up to the cells of the set
pub record IsCounting (a : NumberSet) (rest : List (ℕ × ℕ)) (counts : List ℕ) : Type 0 where
  pub normal : IsNormal rest
  pub size : length counts ≡ order_count
  pub each : (k : ℕ) → k ≤ max_order → slice_index counts k + cell_count_at (set_of rest) k ≡ cell_count_at a k
