-- The numbers in exactly one of two lists, as a list that grows.
use Rattle.std.specs.Prelude.{◌≡◌, ℕ, ◌<◌, Bool, not, ◌||◌, ◌&&◌, ◌∷◌, min, List}
use Rattle.moc_blocks.specs.RangeList.{IsNormal}
use Rattle.moc_blocks.specs.Lemmas.Members.{in_ranges}
use Rattle.moc_blocks.specs.Private.Blocks.{next_of}
use Rattle.moc_blocks.specs.Private.Built.{EndsBelow}

-- whether exactly one of two Booleans is true
abbrev pub exactly_one : Bool → Bool → Bool
exactly_one a b = (a && not b) || (b && not a)

-- A range x, which ends before y does, was removed from both. The numbers that are in exactly one of them were
-- appended. Then z is the rest of y, or x and y merged if they touch.
pub record IsRemovedFromBoth (x y z : ℕ × ℕ) (kept kept' : List (ℕ × ℕ)) : Type 0 where
  pub normal : IsNormal kept'
  pub end : z.1 ≡ y.1
  pub filled : z.0 < z.1
  pub below : (f : ℕ) → x.1 < f → EndsBelow (min f z.0) kept'
  pub same : (xs ys : List (ℕ × ℕ)) (q : ℕ) → IsNormal (x ∷ xs) → IsNormal (y ∷ ys) →
      (in_ranges kept' q || exactly_one (in_ranges xs q) (in_ranges (z ∷ ys) q))
      ≡ (in_ranges kept q || exactly_one (in_ranges (x ∷ xs) q) (in_ranges (y ∷ ys) q))

-- the invariant of a symmetric difference: the result so far, and the numbers in exactly one of the two rests, are the
-- numbers in exactly one of the two whole lists
pub record IsSymmetricStep (kept xs ys whole_xs whole_ys : List (ℕ × ℕ)) : Type 0 where
  pub normal : IsNormal kept
  pub first_normal : IsNormal xs
  pub second_normal : IsNormal ys
  pub below : EndsBelow (min (next_of xs) (next_of ys)) kept
  pub same : (q : ℕ) → (in_ranges kept q || exactly_one (in_ranges xs q) (in_ranges ys q))
      ≡ exactly_one (in_ranges whole_xs q) (in_ranges whole_ys q)
