-- A set as the list of its twelve parts, and sets of parts as lists.
use Rattle.std.specs.Prelude.{◌≡◌, ℕ, zero, suc, ◌-◌, ◌<◌, List, [], ◌∷◌, ◌++◌, length, get_or}
use Rattle.std.specs.FinSet as set
use Rattle.std.specs.List.{filter, range_with_len}
use Rattle.std.specs.Ordering.{nat_cmp}
use Rattle.moc_lists.specs.RangeList.{NumberSet}
use Rattle.moc_ranges.specs.Operations.{part_of}
use Rattle.moc_sphere.specs.CellNumber.{base_pixel_count}

-- the number of parts: one for each base pixel
abbrev pub part_count : ℕ
part_count = base_pixel_count

-- the union of a list of sets
abbrev pub union_of : List NumberSet → NumberSet
union_of [] = set.empty
union_of (a ∷ sets) = set.union a (union_of sets)

-- the first n parts of a set
unfoldable pub parts_below : NumberSet → ℕ → List NumberSet
parts_below a zero = []
parts_below a (suc n) = parts_below a n ++ (part_of a n ∷ [])

-- there are twelve sets, each within its own base pixel
pub record AreWithinParts (sets : List NumberSet) : Type 0 where
  pub twelve : length sets ≡ part_count
  pub own : (b : ℕ) → b < part_count → part_of (get_or sets b set.empty) b ≡ get_or sets b set.empty

-- the parts in a set of parts from a number on, in ascending order
abbrev pub parts_from : set.FinSet nat_cmp → ℕ → List ℕ
parts_from parts from = filter (λ b. set.contains parts b) (range_with_len from (part_count - from))
