-- Inserting a range into a list of blocks, and removing one from it.
use Rattle.std.specs.Prelude.{◌≡◌, ℕ, ◌+◌, ◌-◌, ◌<◌, ◌≤◌, Bool, ◌||◌, ◌&&◌, not, nat_lt, cond, min, max, Option}
use Rattle.std.specs.Prelude.{None, Some, List, [], ◌∷◌, ◌++◌, length, get_or, slice_set, take, drop, Result}
use Rattle.std.specs.Prelude.{MatchOption, MatchResult}
use Rattle.std.specs.List.{insert}
use Rattle.moc_blocks.specs.RangeList.{IsNormal}
use Rattle.moc_blocks.specs.Lemmas.Members.{in_range, in_ranges}
use Rattle.moc_blocks.specs.Blocks.{concat, ObeysFillRule, AreBlocks, max_block_ranges, max_node_blocks}
use Rattle.moc_blocks.specs.Private.Blocks.{next_of, width_of, IsStored}
use Rattle.moc_blocks.specs.Private.Built.{first_length, last_length, EndsBelow}
use Rattle.moc_blocks.specs.Private.Walks.{all_ranges}
use Rattle.moc_blocks.specs.declared.edits.rebuild.EditKind.{EditKind}
use Rattle.moc_blocks.specs.declared.edits.rebuild.EditKind.TheVariants.{Insert, Remove}
use Rattle.moc_blocks.specs.declared.edits.splice.Splice.{Splice}
use Rattle.moc_blocks.specs.declared.edits.splice.Splice.TheVariants.{Insert as SpliceInsert, Replace as SpliceReplace}
use Rattle.moc_blocks.specs.declared.edits.splice.Splice.TheVariants.{Remove as SpliceRemove, Split as SpliceSplit}
use Rattle.moc_blocks.specs.declared.edits.splice.Splice.TheVariants.{Join as SpliceJoin}
use Rattle.moc_blocks.specs.declared.edits.rebuild.Edit.{Edit}
use Rattle.moc_blocks.specs.declared.edits.rebuild.Edit.TheVariants.{Block, Node}

-- a run of a list, with the runs before it, which all end below a number, and the runs after it
pub record IsSplitAtRun {T : Type 0} (ranges : T → List (ℕ × ℕ)) (from : ℕ) (whole before : List T) (run : T)
    (after : List T) : Type 0 where
  pub parts : whole ≡ before ++ run ∷ after
  pub below : EndsBelow from (all_ranges ranges before)

-- two adjacent blocks of a node, with the blocks before and after them; no more blocks are before them than before a
-- block at a place
pub record IsPair (left : List (List (ℕ × ℕ))) (run : List (ℕ × ℕ)) (right before : List (List (ℕ × ℕ)))
    (first second : List (ℕ × ℕ)) (after : List (List (ℕ × ℕ))) : Type 0 where
  pub parts : left ++ run ∷ right ≡ before ++ first ∷ (second ∷ after)
  -- `before` is a prefix of `left`
  pub skipped : List (List (ℕ × ℕ))
  pub starts : left ≡ before ++ skipped

-- a range was merged with the ranges that it touches, and `rest` is the list after it
pub record IsMergedRange (start to : ℕ) (ranges : List (ℕ × ℕ)) (end : ℕ) (rest : List (ℕ × ℕ)) : Type 0 where
  pub normal : IsNormal ((start, end) ∷ rest)
  pub fewer : length rest ≤ length ranges
  pub suffix : rest ≡ drop (length ranges - length rest) ranges
  pub below : (f : ℕ) → to < f → EndsBelow f ranges → EndsBelow f ((start, end) ∷ rest)
  pub same : (q : ℕ) → in_ranges ((start, end) ∷ rest) q ≡ (in_range (start, to) q || in_ranges ranges q)

-- the parts of ranges below a number
abbrev pub parts_below : ℕ → List (ℕ × ℕ) → List (ℕ × ℕ)
parts_below limit [] = []
parts_below limit (range ∷ ranges) =
    cond (nat_lt range.0 limit) ((range.0, min range.1 limit) ∷ parts_below limit ranges) (parts_below limit ranges)

-- the parts of ranges at or above a number
abbrev pub parts_from : ℕ → List (ℕ × ℕ) → List (ℕ × ℕ)
parts_from limit [] = []
parts_from limit (range ∷ ranges) =
    cond (nat_lt limit range.1) ((max range.0 limit, range.1) ∷ parts_from limit ranges) (parts_from limit ranges)

-- whether a pixel is in a list after an edit, from whether it was in the list and whether it is in the range
abbrev pub after_edit : EditKind → Bool → Bool → Bool
after_edit Insert was inside = was || inside
after_edit Remove was inside = was && not inside

-- a list has the pixels of an old list after an edit with a range
abbrev pub IsEdited : EditKind → ℕ → ℕ → List (ℕ × ℕ) → List (ℕ × ℕ) → Type 0
IsEdited edit from to old new = (q : ℕ) → in_ranges new q ≡ after_edit edit (in_ranges old q) (in_range (from, to) q)

-- the ranges of a block after an edit with a range; they begin and end no further out than the old ones and the range
pub record AreEditedRanges (edit : EditKind) (from to : ℕ) (old new : List (ℕ × ℕ)) : Type 0 where
  pub normal : IsNormal new
  pub first : min from (next_of old) ≤ next_of new
  pub below : (f : ℕ) → to < f → EndsBelow f old → EndsBelow f new
  pub same : IsEdited edit from to old new

-- the pieces of a split list: one list, or two if the second is not empty
abbrev pub pieces : {X : Type 0} → List X → List X → List (List X)
pieces xs [] = xs ∷ []
pieces xs (y ∷ ys) = xs ∷ ((y ∷ ys) ∷ [])

-- a list was split into one or two lists, which keep the fill rule between lists of the given lengths
pub record IsSplit {X : Type 0} (most before after : ℕ) (items first second : List X) : Type 0 where
  pub parts : first ++ second ≡ items
  pub filled : ObeysFillRule most (pieces first second)
  pub front : 0 < before → most < before + first_length (pieces first second)
  pub back : 0 < after → most < last_length (pieces first second) + after

-- a list has the pixels of an old list and of one more range; `added` of them are new
pub record AddsRange (from to : ℕ) (old new : List (ℕ × ℕ)) (added : ℕ) : Type 0 where
  pub same : IsEdited Insert from to old new
  pub more : width_of new ≡ width_of old + added

-- a list has the pixels of an old list that are not in a range; `removed` pixels are in both
pub record RemovesRange (from to : ℕ) (old new : List (ℕ × ℕ)) (removed : ℕ) : Type 0 where
  pub same : IsEdited Remove from to old new
  pub less : width_of new + removed ≡ width_of old

-- the result of inserting a range: a list with the given number of new pixels; or, at `None` or an error, the list is
-- unchanged
abbrev pub Inserts : {E : Type 0} → ℕ → ℕ → List (ℕ × ℕ) → List (ℕ × ℕ) → Result (Option ℕ) E → Type 0
Inserts from to old new result =
    MatchResult result (λ added. MatchOption added (new ≡ old) (AddsRange from to old new)) (λ _. new ≡ old)

-- the result of removing a range: a list without the given number of pixels; or, at `None` or an error, the list is
-- unchanged
abbrev pub Removes : {E : Type 0} → ℕ → ℕ → List (ℕ × ℕ) → List (ℕ × ℕ) → Result (Option ℕ) E → Type 0
Removes from to old new result =
    MatchResult result (λ removed. MatchOption removed (new ≡ old) (RemovesRange from to old new)) (λ _. new ≡ old)

-- the new blocks of a node after an edit, between the blocks before and after the node
pub record IsNodeBlocks (edit : EditKind) (from to : ℕ) (before after node blocks : List (List (ℕ × ℕ))) : Type 0 where
  pub some : 0 < length blocks
  pub sized : AreBlocks (before ++ (blocks ++ after))
  pub normal : IsNormal (concat (before ++ (blocks ++ after)))
  pub is_edited : IsEdited edit from to (concat (before ++ (node ++ after))) (concat (before ++ (blocks ++ after)))

-- a block of a node was edited, and is now one block or two; `left` and `right` are the blocks around it in this node
pub record IsEditedBlock (edit : EditKind) (from to : ℕ) (before after node left : List (List (ℕ × ℕ)))
    (run : List (ℕ × ℕ)) (right : List (List (ℕ × ℕ))) (first second : List (ℕ × ℕ)) : Type 0 where
  pub parts : node ≡ left ++ run ∷ right
  pub filled : AreBlocks (pieces first second)
  pub normal : IsNormal (first ++ second)
  pub node_blocks : IsNodeBlocks edit from to before after node (left ++ (pieces first second ++ right))

-- the block at the given position of the node at the given position was edited; these are its ranges now
pub record IsBlockEdit (edit : EditKind) (from to : ℕ) (nodes : List (List (List (ℕ × ℕ)))) (node block : ℕ)
    (ranges : List (ℕ × ℕ)) : Type 0 where
  pub before : List (List (List (ℕ × ℕ)))
  pub old : List (List (ℕ × ℕ))
  pub after : List (List (List (ℕ × ℕ)))
  pub parts : nodes ≡ before ++ old ∷ after
  pub at : node ≡ length before
  pub left : List (List (ℕ × ℕ))
  pub run : List (ℕ × ℕ)
  pub right : List (List (ℕ × ℕ))
  pub place : block ≡ length left
  pub edited_block : IsEditedBlock edit from to (concat before) (concat after) old left run right ranges []

-- a list of the given length has the positions that a splice changes
abbrev pub FitsSplice : Splice → ℕ → Type 0
FitsSplice (SpliceInsert place range) n = place ≤ n
FitsSplice (SpliceReplace place range) n = place < n
FitsSplice (SpliceRemove place) n = place < n
FitsSplice (SpliceSplit place first second) n = place < n
FitsSplice (SpliceJoin place range) n = place + 1 < n

-- the ranges after a splice
abbrev pub after_splice : Splice → List (ℕ × ℕ) → List (ℕ × ℕ)
after_splice (SpliceInsert place range) ranges = insert ranges place range
after_splice (SpliceReplace place range) ranges = take place ranges ++ range ∷ drop (place + 1) ranges
after_splice (SpliceRemove place) ranges = take place ranges ++ drop (place + 1) ranges
after_splice (SpliceSplit place first second) ranges = take place ranges ++ first ∷ (second ∷ drop (place + 1) ranges)
after_splice (SpliceJoin place range) ranges = take place ranges ++ range ∷ drop (place + 2) ranges

-- the number of ranges after a splice, from their number before it
abbrev pub spliced_length : Splice → ℕ → ℕ
spliced_length (SpliceInsert place range) n = n + 1
spliced_length (SpliceReplace place range) n = n
spliced_length (SpliceRemove place) n = n - 1
spliced_length (SpliceSplit place first second) n = n + 1
spliced_length (SpliceJoin place range) n = n - 1

-- the ranges that a splice replaces
abbrev pub old_ranges : Splice → List (ℕ × ℕ) → List (ℕ × ℕ)
old_ranges (SpliceInsert place range) ranges = []
old_ranges (SpliceReplace place range) ranges = take 1 (drop place ranges)
old_ranges (SpliceRemove place) ranges = take 1 (drop place ranges)
old_ranges (SpliceSplit place first second) ranges = take 1 (drop place ranges)
old_ranges (SpliceJoin place range) ranges = take 2 (drop place ranges)

-- the new ranges of a splice
abbrev pub new_ranges : Splice → List (ℕ × ℕ)
new_ranges (SpliceInsert place range) = range ∷ []
new_ranges (SpliceReplace place range) = range ∷ []
new_ranges (SpliceRemove place) = []
new_ranges (SpliceSplit place first second) = first ∷ (second ∷ [])
new_ranges (SpliceJoin place range) = range ∷ []

-- a splice changes ranges as an edit with a range does
pub record IsSplice (edit : EditKind) (from to : ℕ) (ranges : List (ℕ × ℕ)) (splice : Splice) : Type 0 where
  pub fits : FitsSplice splice (length ranges)
  pub edited : AreEditedRanges edit from to ranges (after_splice splice ranges)

-- a block of one length obeys the fill rule between blocks of two other lengths; the length 0 means that there is no
-- block
pub record KeepsFillRule (before length after : ℕ) : Type 0 where
  pub some : 0 < length
  pub fits : length ≤ max_block_ranges
  pub front : 0 < before → max_block_ranges < before + length
  pub back : 0 < after → max_block_ranges < length + after

-- a splice of the block at the given position of the node at the given position is an edit with a range
pub record IsBlockSplice (edit : EditKind) (from to : ℕ) (nodes : List (List (List (ℕ × ℕ)))) (node block : ℕ)
    (splice : Splice) : Type 0 where
  pub ranges : List (ℕ × ℕ)
  pub block_edit : IsBlockEdit edit from to nodes node block ranges
  pub was_normal : IsNormal block_edit.run
  pub fits : FitsSplice splice (length block_edit.run)
  pub made : ranges ≡ after_splice splice block_edit.run

-- a splice can be applied to a block of a node
pub record CanSplice (node : List (List (ℕ × ℕ))) (block : ℕ) (splice : Splice) : Type 0 where
  pub there : block < length node
  pub was_normal : IsNormal (get_or node block [])
  pub fits : FitsSplice splice (length (get_or node block []))
  pub some : 0 < length (after_splice splice (get_or node block []))
  pub small : length (after_splice splice (get_or node block [])) ≤ max_block_ranges
  pub normal : IsNormal (concat (slice_set node block (after_splice splice (get_or node block []))))
  pub sized : AreBlocks (slice_set node block (after_splice splice (get_or node block [])))

-- a list of one or two elements
abbrev pub one_or_two : {X : Type 0} → X → Option X → List X
one_or_two first None = first ∷ []
one_or_two first (Some second) = first ∷ (second ∷ [])

-- the node at a position is replaced by one or two nodes because of an edit
pub record IsNodeEdit (edit : EditKind) (from to : ℕ) (nodes : List (List (List (ℕ × ℕ)))) (place : ℕ)
    (first : List (List (ℕ × ℕ))) (second : Option (List (List (ℕ × ℕ)))) : Type 0 where
  pub before : List (List (List (ℕ × ℕ)))
  pub node : List (List (ℕ × ℕ))
  pub after : List (List (List (ℕ × ℕ)))
  pub parts : nodes ≡ before ++ node ∷ after
  pub at : place ≡ length before
  pub stored : IsStored [] (before ++ (one_or_two first second ++ after))
  pub is_edited : IsEdited edit from to (concat (concat nodes))
      (concat (concat (before ++ (one_or_two first second ++ after))))

-- a node between others is replaced by one or two nodes with the given blocks
pub record ReplacesNodeBy (before after : List (List (List (ℕ × ℕ)))) (blocks : List (List (ℕ × ℕ))) (place : ℕ)
    (first : List (List (ℕ × ℕ))) (second : Option (List (List (ℕ × ℕ)))) : Type 0 where
  pub at : place ≡ length before
  -- the blocks of the second node, if there is one
  pub rest : List (List (ℕ × ℕ))
  pub split : IsSplit max_node_blocks (last_length before) (first_length after) blocks first rest
  pub last : MatchOption second (rest ≡ []) (λ node. (node ≡ rest) × (0 < length rest))

-- the edit replaces a node between others by one or two nodes with the given blocks
abbrev pub ReplacesNode : List (List (List (ℕ × ℕ))) → List (List (List (ℕ × ℕ))) → List (List (ℕ × ℕ)) → Edit → Type 0
ReplacesNode before after blocks (Block e) = ⊥
ReplacesNode before after blocks (Node e) = ReplacesNodeBy before after blocks e.place e.first e.second

-- a block or a node is replaced because of an edit
abbrev pub IsEdit : EditKind → ℕ → ℕ → List (List (List (ℕ × ℕ))) → Edit → Type 0
IsEdit edit from to nodes (Block e) = IsBlockEdit edit from to nodes e.node e.block e.ranges.items
IsEdit edit from to nodes (Node e) = IsNodeEdit edit from to nodes e.place e.first e.second

-- a list with other elements in place of the one at a position
abbrev pub with_replaced_item : {X : Type 0} → List X → ℕ → List X → List X
with_replaced_item xs place new = take place xs ++ (new ++ drop (place + 1) xs)
