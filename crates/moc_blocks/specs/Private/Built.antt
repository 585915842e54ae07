-- A list of ranges in blocks that grows at its end.
use Rattle.std.specs.Prelude.{◌≡◌, ℕ, ◌<◌, ◌≤◌, List, [], ◌∷◌, ◌++◌, length, ⊤}
use Rattle.moc_blocks.specs.RangeList.{IsNormal}
use Rattle.moc_blocks.specs.Blocks.{concat, ObeysFillRule, AreBlocks, max_block_ranges, max_node_blocks}
use Rattle.moc_blocks.specs.Private.Blocks.{next_of}

-- all ranges: of the finished nodes, of the blocks that are not in a node yet, and those that are not in a block yet
abbrev pub builder_ranges : List (List (List (ℕ × ℕ))) → List (List (ℕ × ℕ)) → List (ℕ × ℕ) → List (ℕ × ℕ)
builder_ranges nodes blocks ranges = concat (concat nodes ++ blocks) ++ ranges

-- the length of the last list, or 0 if the list is empty
abbrev pub last_length : {X : Type 0} → List (List X) → ℕ
last_length [] = 0
last_length (list ∷ []) = length list
last_length (list ∷ (next ∷ lists)) = last_length (next ∷ lists)

-- nodes by the fill rule, and at most 16 blocks that are not in a node yet
pub record AreGrouped (nodes : List (List (List (ℕ × ℕ)))) (blocks : List (List (ℕ × ℕ))) : Type 0 where
  pub sized : ObeysFillRule max_node_blocks nodes
  pub fits : length blocks ≤ max_node_blocks

-- the state of a builder: blocks and nodes by the fill rule, and at most 128 ranges after them; all together are a
-- normal range list
pub record IsBuilderState (nodes : List (List (List (ℕ × ℕ)))) (blocks : List (List (ℕ × ℕ))) (ranges : List (ℕ × ℕ)) :
    Type 0 where
  pub sized : AreBlocks (concat nodes ++ blocks)
  pub wide : AreGrouped nodes blocks
  pub fits : length ranges ≤ max_block_ranges
  pub normal : IsNormal (builder_ranges nodes blocks ranges)

-- the number of ranges of the first block, or 0 if the list is empty
abbrev pub first_length : {X : Type 0} → List (List X) → ℕ
first_length [] = 0
first_length (block ∷ blocks) = length block

-- each range ends below f
abbrev pub EndsBelow : ℕ → List (ℕ × ℕ) → Type 0
EndsBelow f [] = ⊤
EndsBelow f (range ∷ ranges) = (range.1 < f) × EndsBelow f ranges

-- each range begins at or before f
abbrev pub BeginsBy : ℕ → List (ℕ × ℕ) → Type 0
BeginsBy f [] = ⊤
BeginsBy f (range ∷ ranges) = (range.0 ≤ f) × BeginsBy f ranges

-- a list that grows at its end: ranges that are final, and ranges after them; the last of these can be extended
pub record GrowingList : Type 0 where
  pub closed : List (ℕ × ℕ)
  pub loose : List (ℕ × ℕ)

-- the ranges of the list
abbrev pub ranges_of : GrowingList → List (ℕ × ℕ)
ranges_of b = b.closed ++ b.loose

-- no ranges
abbrev pub empty_growing : GrowingList
empty_growing = record { closed = []; loose = [] }

-- the nodes, blocks and ranges of a builder as a list that grows: ranges in blocks are final
abbrev pub growing_list : List (List (List (ℕ × ℕ))) → List (List (ℕ × ℕ)) → List (ℕ × ℕ) → GrowingList
growing_list nodes blocks ranges = record { closed = concat (concat nodes ++ blocks); loose = ranges }

-- a range that begins at f can be merged in: the final ranges end before f, and the others begin no later than f
pub record CanMerge (built : GrowingList) (f : ℕ) : Type 0 where
  pub before : EndsBelow f built.closed
  pub begun : BeginsBy f built.loose

-- a prefix of a list, whose ranges all end below a limit, was moved to the end of another list
pub record MovesPrefix (xs xs' : List (ℕ × ℕ)) (limit : ℕ) (before after : List (ℕ × ℕ)) : Type 0 where
  pub removed : List (ℕ × ℕ)
  pub parts : xs ≡ removed ++ xs'
  pub below : EndsBelow limit removed
  pub built : IsNormal after
  pub kept : after ≡ before ++ removed

-- the next range of a list can be appended to another list
pub record CanAppend (xs before : List (ℕ × ℕ)) : Type 0 where
  pub normal : IsNormal xs
  pub built : IsNormal before
  pub after : EndsBelow (next_of xs) before
