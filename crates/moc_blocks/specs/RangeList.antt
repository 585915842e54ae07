-- Sets of numbers, and their lists of half-open ranges (from, to).
use Rattle.std.specs.Prelude.{◌≡◌, ℕ, ◌-◌, ◌<◌, ◌≤◌, List, [], ◌∷◌, ⊤}
use Rattle.std.specs.Ordering.{nat_cmp}
use Rattle.std.specs.FinSet as set
use Rattle.std.specs.List.{range_with_len}

-- a finite set of numbers
abbrev pub NumberSet : Type 0
NumberSet = set.FinSet nat_cmp

-- the numbers from `from` up to, but not including, `to`
unfoldable pub numbers : ℕ → ℕ → NumberSet
numbers from to = set.from_list (range_with_len from (to - from))

-- the number of order-29 pixels: 12 * 4^29
abbrev pub pixel_count : ℕ
pixel_count = 3458764513820540928

-- the set of a range list: the union of its ranges
unfoldable pub set_of : List (ℕ × ℕ) → NumberSet
set_of [] = set.empty
set_of (range ∷ ranges) = set.union (numbers range.0 range.1) (set_of ranges)

-- the first range, if there is one, begins after x
abbrev pub BeginsAfter : ℕ → List (ℕ × ℕ) → Type 0
BeginsAfter x [] = ⊤
BeginsAfter x (range ∷ ranges) = x < range.0

-- a normal list: no range is empty or ends after the last pixel, and each ends before the next begins
abbrev pub IsNormal : List (ℕ × ℕ) → Type 0
IsNormal [] = ⊤
IsNormal (range ∷ ranges) = (range.0 < range.1) × (range.1 ≤ pixel_count) × BeginsAfter range.1 ranges × IsNormal ranges

-- the list is the normal range list of the set
abbrev pub AreRangesOf : NumberSet → List (ℕ × ℕ) → Type 0
AreRangesOf a ranges = IsNormal ranges × (set_of ranges ≡ a)
