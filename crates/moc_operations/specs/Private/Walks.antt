-- What operations and comparisons compute from two lists of ranges.
use Rattle.std.specs.Prelude.{ℕ, Bool, List, [], ◌∷◌, Option, None, Some}
use Rattle.std.specs.FinSet as set
use Rattle.moc_blocks.specs.RangeList.{set_of}

-- the number of pixels that two lists of ranges have in common
abbrev pub common_of : List (ℕ × ℕ) → List (ℕ × ℕ) → ℕ
common_of xs ys = set.len (set.intersection (set_of xs) (set_of ys))

-- whether the first list of ranges contains each number of the second
abbrev pub contains_all : List (ℕ × ℕ) → List (ℕ × ℕ) → Bool
contains_all xs ys = set.is_subset (set_of ys) (set_of xs)

-- the list of a first range and the ranges after it; empty if there is no first range
abbrev pub from_current : Option (ℕ × ℕ) → List (ℕ × ℕ) → List (ℕ × ℕ)
from_current None xs = []
from_current (Some x) xs = x ∷ xs
