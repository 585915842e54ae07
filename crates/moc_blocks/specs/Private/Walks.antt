-- Traversals of a list of ranges: what they skip and find.
use Rattle.std.specs.Prelude.{◌≡◌, ℕ, ◌+◌, ◌-◌, ◌<◌, ◌≤◌, ⊤, List, [], ◌∷◌, ◌++◌, length, get_or, Option, MatchOption}
use Rattle.std.specs.Prelude.{min, max, take}
use Rattle.moc_blocks.specs.Private.Blocks.{last_of}

-- the concatenated ranges of runs
abbrev pub all_ranges : {T : Type 0} → (T → List (ℕ × ℕ)) → List T → List (ℕ × ℕ)
all_ranges ranges [] = []
all_ranges ranges (run ∷ runs) = ranges run ++ all_ranges ranges runs

-- each range ends at or before the limit
abbrev pub EndsBy : ℕ → List (ℕ × ℕ) → Type 0
EndsBy limit [] = ⊤
EndsBy limit (range ∷ ranges) = (range.1 ≤ limit) × EndsBy limit ranges

-- the run at a position, if there is one, ends after the limit
abbrev pub EndsAfterAt : {T : Type 0} → (T → List (ℕ × ℕ)) → List T → ℕ → ℕ → Type 0
EndsAfterAt {T} ranges runs limit place =
    (run : T) → place < length runs → limit < last_of (ranges (get_or runs place run))

-- the invariant of a search: the runs before `low` end at or before the limit, and none from `low + size` on does
pub record IsSkipping {T : Type 0} (ranges : T → List (ℕ × ℕ)) (runs : List T) (limit low size : ℕ) : Type 0 where
  pub within : low + size ≤ length runs
  pub before : EndsBy limit (all_ranges ranges (take low runs))
  pub place : ℕ
  pub near : place ≤ low + size
  pub past : EndsAfterAt ranges runs limit place

-- The invariant of a count: the first `place` runs end at or before the limit. If they are fewer than the runs that
-- were read from `low` on, the next run ends after the limit.
pub record IsCounting {T : Type 0} (ranges : T → List (ℕ × ℕ)) (runs : List T) (limit low read place : ℕ) : Type 0 where
  pub least : low ≤ place
  pub most : place ≤ low + read
  pub before : EndsBy limit (all_ranges ranges (take place runs))
  pub past : place < low + read → EndsAfterAt ranges runs limit place

-- the ranges of the first run that ends after the limit, in the ranges of all runs
pub record IsFirstAfter (limit : ℕ) (run whole : List (ℕ × ℕ)) : Type 0 where
  pub removed : List (ℕ × ℕ)
  pub later : List (ℕ × ℕ)
  pub parts : whole ≡ removed ++ (run ++ later)
  pub ended : EndsBy limit removed
  pub past : limit < last_of run

-- the number of pixels that a range has in common with the ranges of a list, which do not overlap
abbrev pub overlap_of : ℕ × ℕ → List (ℕ × ℕ) → ℕ
overlap_of range [] = 0
overlap_of range (other ∷ others) = (min other.1 range.1 - max other.0 range.0) + overlap_of range others

-- ranges that end at or before the end of a range were skipped; they have `common` pixels in common with it
pub record Skips (range : ℕ × ℕ) (old new : List (ℕ × ℕ)) (common : ℕ) : Type 0 where
  pub removed : List (ℕ × ℕ)
  pub parts : old ≡ removed ++ new
  pub ended : EndsBy range.1 removed
  pub counted : common ≡ overlap_of range removed

-- ranges were skipped, and then the next range, if there is one, was taken
pub record Advances (range : ℕ × ℕ) (old new : List (ℕ × ℕ)) (next : Option (ℕ × ℕ)) (common : ℕ) : Type 0 where
  pub rest : List (ℕ × ℕ)
  pub passed : Skips range old rest common
  pub step : MatchOption next ((rest ≡ []) × (new ≡ [])) (λ first. rest ≡ first ∷ new)
