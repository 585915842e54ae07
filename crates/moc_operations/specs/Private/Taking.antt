-- Moving ranges of a list to a list in blocks that grows at its end.
use Rattle.std.specs.Prelude.{◌≡◌, ℕ, ◌+◌, ◌<◌, ◌≤◌, ◌||◌, ◌&&◌, max, List, [], ◌∷◌, ◌++◌, length}
use Rattle.moc_blocks.specs.RangeList.{pixel_count, IsNormal}
use Rattle.moc_blocks.specs.Lemmas.Members.{in_ranges, in_range}
use Rattle.moc_blocks.specs.Private.Walks.{EndsBy}
use Rattle.moc_blocks.specs.Private.Blocks.{next_of}
use Rattle.moc_blocks.specs.Private.Built.{EndsBelow, GrowingList, ranges_of, CanMerge}

-- ranges were removed from a list and merged into a list that grows
pub record MovesNext (xs xs' : List (ℕ × ℕ)) (limit : ℕ) (old new : GrowingList) : Type 0 where
  pub removed : List (ℕ × ℕ)
  pub parts : xs ≡ removed ++ xs'
  pub some : 0 < length removed
  pub built : IsNormal (ranges_of new)
  pub same : (q : ℕ) → in_ranges (ranges_of new) q ≡ (in_ranges (ranges_of old) q || in_ranges removed q)
  pub can_next : CanMerge new (next_of xs')
  pub can_limit : CanMerge new limit

-- the next range of a list, which begins at or before the limit, can be merged into a list that grows
pub record CanMove (xs : List (ℕ × ℕ)) (limit : ℕ) (growing : GrowingList) : Type 0 where
  pub some : 0 < length xs
  pub normal : IsNormal xs
  pub first : next_of xs ≤ limit
  pub built : IsNormal (ranges_of growing)
  pub can : CanMerge growing (next_of xs)

-- a range was appended to others, unless it is empty
pub record AddsPart (from to : ℕ) (before after : List (ℕ × ℕ)) : Type 0 where
  pub built : IsNormal after
  pub below : (f : ℕ) → from ≤ f → to < f → EndsBelow f after
  pub same : (q : ℕ) → in_ranges after q ≡ (in_ranges before q || in_range (from, to) q)

-- Ranges that end no later than a range were removed from a list. The numbers that they have in common with it were
-- appended to others.
pub record MovesCommon (xs xs' : List (ℕ × ℕ)) (range : ℕ × ℕ) (before after : List (ℕ × ℕ)) : Type 0 where
  pub removed : List (ℕ × ℕ)
  pub parts : xs ≡ removed ++ xs'
  pub ended : EndsBy range.1 removed
  pub built : IsNormal after
  pub below : EndsBelow (max (next_of xs') range.0) after
  pub same : (q : ℕ) → in_ranges after q ≡ (in_ranges before q || (in_ranges removed q && in_range range q))

-- the range that begins first was removed from one of two lists
pub record TakesFirst (xs ys : List (ℕ × ℕ)) (range : ℕ × ℕ) (xs' ys' : List (ℕ × ℕ)) : Type 0 where
  pub first_normal : IsNormal xs'
  pub second_normal : IsNormal ys'
  pub filled : range.0 < range.1
  pub within : range.1 ≤ pixel_count
  pub first_later : range.0 ≤ next_of xs'
  pub second_later : range.0 ≤ next_of ys'
  pub lower : (low : ℕ) → low ≤ next_of xs → low ≤ next_of ys → low ≤ range.0
  pub same : (q : ℕ) → (in_ranges xs q || in_ranges ys q) ≡ (in_range range q || (in_ranges xs' q || in_ranges ys' q))
  pub onward : length xs' + length ys' < length xs + length ys

-- the invariant of merging two lists into a result with an open range after it
pub record IsMerging (kept : List (ℕ × ℕ)) (last : ℕ × ℕ) (xs ys whole whole_xs whole_ys : List (ℕ × ℕ)) : Type 0 where
  pub opened : IsNormal (kept ++ last ∷ [])
  pub first_normal : IsNormal xs
  pub second_normal : IsNormal ys
  pub first_later : last.0 ≤ next_of xs
  pub second_later : last.0 ≤ next_of ys
  pub same : (q : ℕ) → (in_ranges (kept ++ last ∷ []) q || (in_ranges xs q || in_ranges ys q)) ≡
      (in_ranges whole q || (in_ranges whole_xs q || in_ranges whole_ys q))
  pub fewer : length xs + length ys ≤ length whole_xs + length whole_ys

-- ranges were removed from two lists and merged into a list that grows
pub record MovesBoth (xs xs' ys ys' : List (ℕ × ℕ)) (old new : GrowingList) : Type 0 where
  pub built : IsNormal (ranges_of new)
  pub first_normal : IsNormal xs'
  pub second_normal : IsNormal ys'
  pub can_first : CanMerge new (next_of xs')
  pub can_second : CanMerge new (next_of ys')
  pub same : (q : ℕ) → (in_ranges (ranges_of new) q || (in_ranges xs' q || in_ranges ys' q)) ≡
      (in_ranges (ranges_of old) q || (in_ranges xs q || in_ranges ys q))
  pub fewer : length xs' + length ys' ≤ length xs + length ys
