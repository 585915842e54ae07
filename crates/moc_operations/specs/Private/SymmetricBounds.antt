-- The bounds of ranges: a number is in a range if an odd number of bounds is at or before it.
use Rattle.std.specs.Prelude.{◌≡◌, ℕ, ◌+◌, ◌≤◌, ⊤, Bool, false, List, [], ◌∷◌, ◌++◌, length, drop, Option, None, Some}
use Rattle.std.specs.Prelude.{nat_le, ◌==◌, if◌then◌else◌}
use Rattle.moc_blocks.specs.RangeList.{pixel_count, IsNormal}
use Rattle.moc_blocks.specs.Lemmas.Members.{in_ranges}
use Rattle.moc_operations.specs.declared.symmetric_differences.OpenBound.{OpenBound}
use Rattle.moc_operations.specs.Private.Differing.{exactly_one}

-- the starts and the ends of ranges, alternating
abbrev pub bounds_of : List (ℕ × ℕ) → List ℕ
bounds_of [] = []
bounds_of (range ∷ ranges) = range.0 ∷ (range.1 ∷ bounds_of ranges)

-- whether an odd number of bounds is at or before q
abbrev pub is_odd_at : List ℕ → ℕ → Bool
is_odd_at [] q = false
is_odd_at (bound ∷ bounds) q = exactly_one (nat_le bound q) (is_odd_at bounds q)

-- the bounds are ascending, the first is at least `low`, and none is above the number of pixels
abbrev pub AreAscendingBounds : ℕ → List ℕ → Type 0
AreAscendingBounds low [] = ⊤
AreAscendingBounds low (bound ∷ bounds) = (low ≤ bound) × (bound ≤ pixel_count) × AreAscendingBounds (bound + 1) bounds

-- the open bound as a list: empty, or one bound
abbrev pub open_of : Option ℕ → List ℕ
open_of None = []
open_of (Some bound) = bound ∷ []

-- The invariant of bounds. At each number, count the bounds in the result and the remaining bounds of both lists. If
-- the count is odd, exactly one of the two whole lists contains the number; if it is even, both or none.
pub record AreBounds (kept xs ys : List ℕ) (whole_xs whole_ys : List (ℕ × ℕ)) : Type 0 where
  pub first : AreAscendingBounds 0 (kept ++ xs)
  pub second : AreAscendingBounds 0 (kept ++ ys)
  pub same : (q : ℕ) →
      exactly_one (is_odd_at (kept ++ xs) q) (is_odd_at ys q)
      ≡ exactly_one (in_ranges whole_xs q) (in_ranges whole_ys q)

-- the invariant of a symmetric difference: of at most one list, the next range has been begun at the open bound
pub record IsBoundsStep (kept : List (ℕ × ℕ)) (opened : Option ℕ) (first second : ℕ)
    (xs ys whole_xs whole_ys : List (ℕ × ℕ)) : Type 0 where
  pub symmetric_bounds : AreBounds (bounds_of kept ++ open_of opened)
      (drop first (bounds_of xs)) (drop second (bounds_of ys))
      whole_xs whole_ys
  pub one : length (open_of opened) ≡ first + second
  pub first_some : first ≤ length xs
  pub second_some : second ≤ length ys
  pub first_normal : IsNormal xs
  pub second_normal : IsNormal ys

-- some two lists have this symmetric difference in progress
abbrev pub HasBounds : List (ℕ × ℕ) → OpenBound → List (ℕ × ℕ) → List (ℕ × ℕ) → Type 0
HasBounds built opened xs ys =
    (whole_xs : List (ℕ × ℕ)) × ((whole_ys : List (ℕ × ℕ))
    × IsBoundsStep built opened.bound opened.first opened.second xs ys whole_xs whole_ys)

-- a step of a symmetric difference, which keeps the invariant for any two lists
abbrev pub KeepsBounds : (built built' : List (ℕ × ℕ)) → (opened opened' : OpenBound)
    → (xs xs' ys ys' : List (ℕ × ℕ)) → Type 0
KeepsBounds built built' opened opened' xs xs' ys ys' =
    (whole_xs whole_ys : List (ℕ × ℕ)) →
    IsBoundsStep built opened.bound opened.first opened.second xs ys whole_xs whole_ys →
    IsBoundsStep built' opened'.bound opened'.first opened'.second xs' ys' whole_xs whole_ys

-- the next range of a list, which begins at the open bound if its first bound was passed
abbrev pub restored_range : Option (ℕ × ℕ) → ℕ → Option ℕ → Option (ℕ × ℕ)
restored_range (Some range) passed (Some bound) = if passed == 1 then Some (bound, range.1) else Some range
restored_range range passed bound = range
