-- The intersection of two lists of ranges, appended to a result.
use Rattle.std.specs.Prelude.{◌≡◌, ℕ, ◌≤◌, Bool, true, false, ◌||◌, ◌&&◌, max, List, [], ◌∷◌, ◌++◌, ⊤}
use Rattle.moc_blocks.specs.RangeList.{IsNormal, BeginsAfter}
use Rattle.moc_blocks.specs.Lemmas.Members.{in_ranges}
use Rattle.moc_blocks.specs.Private.Blocks.{largest_u64, next_of}
use Rattle.moc_blocks.specs.Private.Built.{EndsBelow}

-- each range of a list ends before the next begins; ranges may be empty
abbrev pub IsAscending : List (ℕ × ℕ) → Type 0
IsAscending [] = ⊤
IsAscending (range ∷ ranges) = (range.0 ≤ range.1) × BeginsAfter range.1 ranges × IsAscending ranges

-- the list of a range if a condition holds, and otherwise the empty list
abbrev pub list_if : Bool → ℕ × ℕ → List (ℕ × ℕ)
list_if true range = range ∷ []
list_if false range = []

-- the result ends before two lists can next have a number in common
pub record CanIntersect (xs ys kept : List (ℕ × ℕ)) : Type 0 where
  pub built : IsNormal kept
  pub first_normal : IsNormal xs
  pub second_ascending : IsAscending ys
  pub below : EndsBelow (max (next_of xs) (next_of ys)) kept

-- ranges were removed from two lists, and the numbers that they have in common with the other list were appended to the
-- result
pub record Intersects (xs xs' ys ys' before after : List (ℕ × ℕ)) : Type 0 where
  pub can : CanIntersect xs' ys' after
  pub same : (q : ℕ) → (in_ranges after q || (in_ranges xs' q && in_ranges ys' q))
      ≡ (in_ranges before q || (in_ranges xs q && in_ranges ys q))

-- ranges that end below a limit were removed from a list
pub record SkipsBelow (limit : ℕ) (xs xs' : List (ℕ × ℕ)) : Type 0 where
  pub removed : List (ℕ × ℕ)
  pub parts : xs ≡ removed ++ xs'
  pub below : EndsBelow limit removed

-- the gaps before the ranges of a list, if what precedes them ends at `low`
abbrev pub gaps_before : ℕ → List (ℕ × ℕ) → List (ℕ × ℕ)
gaps_before low [] = []
gaps_before low (range ∷ ranges) = (low, range.0) ∷ gaps_before range.1 ranges

-- the gaps before the ranges of a list, and the gap after them, up to the largest u64
abbrev pub gaps_of : ℕ → List (ℕ × ℕ) → List (ℕ × ℕ)
gaps_of low [] = (low, largest_u64) ∷ []
gaps_of low (range ∷ ranges) = (low, range.0) ∷ gaps_of range.1 ranges

-- the end of the last range, or `low` if the list is empty
abbrev pub end_of : ℕ → List (ℕ × ℕ) → ℕ
end_of low [] = low
end_of low (range ∷ ranges) = end_of range.1 ranges
