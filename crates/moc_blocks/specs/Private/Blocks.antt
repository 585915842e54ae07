-- Lists of ranges in blocks, and of blocks in nodes.
use Rattle.std.specs.Prelude.{◌≡◌, ℕ, ◌+◌, ◌-◌, ◌<◌, ◌≤◌, List, [], ◌∷◌, ◌++◌, length, take, map, sum_by}
use Rattle.moc_blocks.specs.RangeList.{IsNormal}
use Rattle.moc_blocks.specs.Blocks.{concat, ObeysFillRule, AreBlocks, max_block_ranges, max_node_blocks}

-- the sum of the widths of the ranges
abbrev pub width_of : List (ℕ × ℕ) → ℕ
width_of ranges = sum_by (λ range. range.1 - range.0) ranges

-- the start of the first range
abbrev pub first_of : List (ℕ × ℕ) → ℕ
first_of [] = 0
first_of (range ∷ ranges) = range.0

-- the end of the last range
abbrev pub last_of : List (ℕ × ℕ) → ℕ
last_of [] = 0
last_of (range ∷ []) = range.1
last_of (range ∷ (next ∷ ranges)) = last_of (next ∷ ranges)

-- the cached bounds and total width of ranges that are not empty
pub record IsSummary (from to size : ℕ) (ranges : List (ℕ × ℕ)) : Type 0 where
  pub some : 0 < length ranges
  pub first : from ≡ first_of ranges
  pub last : to ≡ last_of ranges
  pub measured : size ≡ width_of ranges

-- the cached bounds and total width of a block, which has at most 128 ranges
pub record IsBlock (from to size : ℕ) (ranges : List (ℕ × ℕ)) : Type 0 where
  pub summary : IsSummary from to size ranges
  pub fits : length ranges ≤ max_block_ranges

-- the cached bounds, total width and range count of a node, which has at most 16 blocks
pub record IsNode (from to size count : ℕ) (blocks : List (List (ℕ × ℕ))) : Type 0 where
  pub summary : IsSummary from to size (concat blocks)
  pub counted : count ≡ length (concat blocks)
  pub sized : AreBlocks blocks
  pub fits : length blocks ≤ max_node_blocks

-- the remaining ranges of a traversal: of the current block, of the current node, and of the nodes after it
abbrev pub rest_of : List (ℕ × ℕ) → List (List (ℕ × ℕ)) → List (List (List (ℕ × ℕ))) → List (ℕ × ℕ)
rest_of ranges blocks nodes = ranges ++ (concat blocks ++ concat (concat nodes))

-- the largest u64
abbrev pub largest_u64 : ℕ
largest_u64 = 18446744073709551615

-- the start of the first range, or the largest u64 if the list is empty
abbrev pub next_of : List (ℕ × ℕ) → ℕ
next_of [] = largest_u64
next_of (range ∷ ranges) = range.0

-- the storage of a set: at most 128 ranges without blocks, or nodes of 1 to 16 blocks by the fill rule; all ranges
-- together are a normal range list
pub record IsStored (few : List (ℕ × ℕ)) (nodes : List (List (List (ℕ × ℕ)))) : Type 0 where
  pub alone : 0 < length few → nodes ≡ []
  pub fits : length few ≤ max_block_ranges
  pub sized : AreBlocks (concat nodes)
  pub wide : ObeysFillRule max_node_blocks nodes
  pub normal : IsNormal (rest_of few [] nodes)

-- blocks whose concatenated ranges are a normal range list
pub record AreStored (blocks : List (List (ℕ × ℕ))) : Type 0 where
  pub sized : AreBlocks blocks
  pub normal : IsNormal (concat blocks)

-- the position of the first element of each list in the concatenation, if n elements precede it
abbrev pub starts_from : {X : Type 0} → ℕ → List (List X) → List ℕ
starts_from n [] = []
starts_from n (list ∷ lists) = n ∷ starts_from (n + length list) lists

-- the start positions of lists after one that was replaced: `less` elements removed, and `more` added
abbrev pub shift_starts : ℕ → ℕ → List ℕ → List ℕ
shift_starts less more starts = map (λ start. start - less + more) starts

-- the cached numbers of nodes: the number of blocks before each, the total width, and the number of ranges
pub record AreNodes (starts : List ℕ) (size count : ℕ) (nodes : List (List (List (ℕ × ℕ)))) : Type 0 where
  pub placed : starts ≡ starts_from 0 nodes
  pub measured : size ≡ width_of (concat (concat nodes))
  pub counted : count ≡ length (concat (concat nodes))

-- `begun` lists begin at or before a position in the concatenation, and the next list begins after it
pub record IsCountStarted {X : Type 0} (lists : List (List X)) (place begun : ℕ) : Type 0 where
  pub bound : begun ≤ length lists
  pub before : 0 < begun → length (concat (take (begun - 1) lists)) ≤ place
  pub after : begun < length lists → place < length (concat (take begun lists))

-- the blocks of a set: its ranges without blocks as one block, or the blocks of the current node and of the nodes after
-- it
abbrev pub chunks_of : List (ℕ × ℕ) → List (List (ℕ × ℕ)) → List (List (List (ℕ × ℕ))) → List (List (ℕ × ℕ))
chunks_of [] blocks nodes = blocks ++ concat nodes
chunks_of (range ∷ few) blocks nodes = (range ∷ few) ∷ (blocks ++ concat nodes)
