-- The state of a coverage builder.
use Rattle.std.specs.Prelude.{◌≡◌, ℕ, List, None}
use Rattle.std.specs.FinSet as set
use Rattle.moc_ranges.specs.Errors.{first_error}
use Rattle.moc_blocks.specs.RangeList.{NumberSet, IsNormal, set_of}

-- the ranges that came in order are a normal list, and those that wait are valid
pub record IsCollected (ascending waiting : List (ℕ × ℕ)) : Type 0 where
  pub sorted : IsNormal ascending
  pub valid : first_error waiting ≡ None

-- the pixels of a builder: those of the merged set, of the ranges that came in order, and of the ranges that wait
abbrev pub pixels_of_builder : NumberSet → List (ℕ × ℕ) → List (ℕ × ℕ) → NumberSet
pixels_of_builder joined ascending waiting = set.union (set.union joined (set_of ascending)) (set_of waiting)
