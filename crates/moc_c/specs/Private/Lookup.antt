-- Walks over the ranges of a set.
use Rattle.std.specs.Prelude.{◌≡◌, ◌<◌, ◌≤◌, ℕ, List, [], ◌∷◌, nat_le, ⊤}
use Rattle.std.specs.FinSet as set
use Rattle.moc_lists.specs.RangeList.{NumberSet, IsNormal}
use Rattle.moc_lists.specs.Lemmas.Members.{in_ranges}
use Rattle.moc_c.specs.declared.lookup.KnownSpan.{KnownSpan}

-- the first range starts at x or later
abbrev pub BeginsFrom : ℕ → List (ℕ × ℕ) → Type 0
BeginsFrom x [] = ⊤
BeginsFrom x (range ∷ ranges) = x ≤ range.0

-- from a pixel on, the set consists of these ranges, which start there or later
abbrev pub IsRest : NumberSet → List (ℕ × ℕ) → ℕ → Type 0
IsRest a ranges passed =
    IsNormal ranges × BeginsFrom passed ranges × ((q : ℕ) → passed ≤ q → set.contains a q ≡ in_ranges ranges q)

-- what is known about pixels is true
abbrev pub IsTrueOf : NumberSet → KnownSpan → Type 0
IsTrueOf a k = (q : ℕ) → k.from ≤ q → q < k.end → set.contains a q ≡ nat_le k.start q
