-- A set as blocks of ranges.
use Rattle.std.specs.Prelude.{ℕ, ◌+◌, ◌<◌, ◌≤◌, ◌^◌, List, [], ◌∷◌, ◌++◌, length, ⊤}
use Rattle.moc_blocks.specs.RangeList.{NumberSet, AreRangesOf}

-- the concatenation of lists
abbrev pub concat : {X : Type 0} → List (List X) → List X
concat [] = []
concat (xs ∷ more) = xs ++ concat more

-- together with the next list, if there is one, the list has more than `most` elements
abbrev pub ExceedsWithNext : {X : Type 0} → ℕ → List X → List (List X) → Type 0
ExceedsWithNext most list [] = ⊤
ExceedsWithNext most list (next ∷ lists) = most < length list + length next

-- the fill rule: each list has 1 to `most` elements, and two adjacent lists together have more than `most`
abbrev pub ObeysFillRule : {X : Type 0} → ℕ → List (List X) → Type 0
ObeysFillRule most [] = ⊤
ObeysFillRule most (list ∷ lists) =
    (0 < length list) × (length list ≤ most) × ExceedsWithNext most list lists × ObeysFillRule most lists

-- the maximum number of ranges of a block
abbrev pub max_block_ranges : ℕ
max_block_ranges = 128

-- the maximum number of blocks of a node
abbrev pub max_node_blocks : ℕ
max_node_blocks = 16

-- the fill rule for blocks: each block has 1 to 128 ranges, and two adjacent blocks together have more than 128
abbrev pub AreBlocks : List (List (ℕ × ℕ)) → Type 0
AreBlocks blocks = ObeysFillRule max_block_ranges blocks

-- A search increased the counter from `old` to `new`, by at most 8 more than the number of binary digits of the number
-- of blocks. The concatenated ranges of these blocks are the normal range list of the set.
pub record IsSearchOf (a : NumberSet) (old new : ℕ) : Type 0 where
  pub blocks : List (List (ℕ × ℕ))
  pub sized : AreBlocks blocks
  pub ranges : AreRangesOf a (concat blocks)
  pub increases : old ≤ new
  pub cost : (digits : ℕ) → length blocks < 2 ^ digits → new ≤ old + digits + 8
