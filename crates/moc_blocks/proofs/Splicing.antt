-- Changing the ranges of a block in place.
use Rattle.std.proofs.Common.{◌≡◌, ℕ, zero, suc, ◌+◌, ◌-◌, ◌<◌, ◌≤◌, Bool, true, List, [], ◌∷◌, ◌++◌, length, get_or}
use Rattle.std.proofs.Common.{take, drop, refl, sym, ap, subst, ◌∙◌, arith, append_assoc, length-append, length-drop}
use Rattle.std.proofs.Common.{length-take-le, max, min, cond, nat_lt}
use Rattle.std.specs.Prelude.{slice_set}
use Rattle.std.specs.Bool.{OnTrue}
use Rattle.std.specs.List.{insert}
use Rattle.std.proofs.lemmas.List.{drop-drop, get_or-set_same, take-append-drop}
use Rattle.moc_blocks.specs.RangeList.{pixel_count, IsNormal}
use Rattle.moc_blocks.specs.Blocks.{concat, AreBlocks}
use Rattle.moc_blocks.specs.Private.Blocks.{next_of, width_of, IsStored}
use Rattle.moc_blocks.specs.Private.Built.{EndsBelow, first_length, last_length}
use Rattle.moc_blocks.specs.Private.Walks.{all_ranges, EndsBy, EndsAfterAt}
use Rattle.moc_blocks.specs.Private.Edits.{parts_from, IsMergedRange, IsSplit}
use Rattle.moc_blocks.specs.Private.Edits.{new_ranges, old_ranges, after_splice, spliced_length, CanSplice, FitsSplice, IsBlockSplice, IsSplice, KeepsFillRule}
use Rattle.moc_blocks.specs.declared.edits.rebuild.EditKind.{EditKind}
use Rattle.moc_blocks.specs.declared.edits.rebuild.EditKind.TheVariants.{Insert, Remove}
use Rattle.moc_blocks.specs.declared.edits.splice.Splice.{Splice}
use Rattle.moc_blocks.specs.declared.edits.splice.Splice.TheVariants as splice
use Rattle.moc_blocks.proofs.Blocking.{IsNormal-prefix, IsNormal-suffix, append_empty, width-append}
use Rattle.moc_blocks.proofs.Cutting.{below_cut, below_uncut, cut_out, ended_first, from_dropped, is_less, not_less}
use Rattle.moc_blocks.proofs.Editing.{after_first, run_normal, range_inserted_at_cut, rest_after, concat_around_node, node_blocks_after_regrowth}
use Rattle.moc_blocks.proofs.Replacing.{block_edit_node, block_edit_normal, block_edit_sized, get_between}

-- ---- lists

pub insert_length : {X : Type 0} (xs : List X) (i : ℕ) (x : X) → i ≤ length xs → length (insert xs i x) ≡ length xs + 1
insert_length xs i x le = omega (arith, length-append (take i xs) (x ∷ drop i xs), length-take-le i xs le, length-drop i xs)

pub length_after : (s : Splice) (ranges : List (ℕ × ℕ)) → FitsSplice s (length ranges) → length (after_splice s ranges) ≡ spliced_length s (length ranges)
length_after (splice.Insert place range) ranges fits = insert_length ranges place range fits
length_after (splice.Replace place range) ranges fits =
    omega (arith, fits, length-append (take place ranges) (range ∷ drop (place + 1) ranges), length-take-le place ranges (omega (arith, fits)), length-drop (place + 1) ranges)
length_after (splice.Remove place) ranges fits =
    omega (arith, fits, length-append (take place ranges) (drop (place + 1) ranges), length-take-le place ranges (omega (arith, fits)), length-drop (place + 1) ranges)
length_after (splice.Split place first second) ranges fits =
    omega (arith, fits, length-append (take place ranges) (first ∷ (second ∷ drop (place + 1) ranges)), length-take-le place ranges (omega (arith, fits)), length-drop (place + 1) ranges)
length_after (splice.Join place range) ranges fits =
    omega (arith, fits, length-append (take place ranges) (range ∷ drop (place + 2) ranges), length-take-le place ranges (omega (arith, fits)), length-drop (place + 2) ranges)

-- the new ranges are normal
pub new_normal : (s : Splice) (ranges : List (ℕ × ℕ)) → IsNormal (after_splice s ranges) → IsNormal (new_ranges s)
new_normal (splice.Insert place range) ranges normal = let n = IsNormal-suffix (take place ranges) (range ∷ drop place ranges) normal in (n.0, n.1, tt, tt)
new_normal (splice.Replace place range) ranges normal = let n = IsNormal-suffix (take place ranges) (range ∷ drop (place + 1) ranges) normal in (n.0, n.1, tt, tt)
new_normal (splice.Remove place) ranges normal = tt
new_normal (splice.Split place first second) ranges normal =
    let n = IsNormal-suffix (take place ranges) (first ∷ (second ∷ drop (place + 1) ranges)) normal in
    (n.0, n.1, n.2, (n.3.0, n.3.1, tt, tt))
new_normal (splice.Join place range) ranges normal = let n = IsNormal-suffix (take place ranges) (range ∷ drop (place + 2) ranges) normal in (n.0, n.1, tt, tt)

-- some ranges of a list
pub part_normal : (place count : ℕ) (ranges : List (ℕ × ℕ)) → IsNormal ranges → IsNormal (take count (drop place ranges))
part_normal place count ranges normal =
    IsNormal-prefix (take count (drop place ranges)) (drop count (drop place ranges)) (subst IsNormal (sym (take-append-drop count (drop place ranges)))
    (IsNormal-suffix (take place ranges) (drop place ranges) (subst IsNormal (sym (take-append-drop place ranges)) normal)))

part_width : (place count : ℕ) (ranges : List (ℕ × ℕ)) → width_of (take count (drop place ranges)) ≤ width_of ranges
part_width place count ranges =
    omega (
      arith,
      width-append (take place ranges) (drop place ranges),
      ap width_of (take-append-drop place ranges),
      width-append (take count (drop place ranges)) (drop count (drop place ranges)),
      ap width_of (take-append-drop count (drop place ranges)),
    )

pub old_width_bounded : (s : Splice) (ranges : List (ℕ × ℕ)) → width_of (old_ranges s ranges) ≤ width_of ranges
old_width_bounded (splice.Insert place range) ranges = omega arith
old_width_bounded (splice.Replace place range) ranges = part_width place 1 ranges
old_width_bounded (splice.Remove place) ranges = part_width place 1 ranges
old_width_bounded (splice.Split place first second) ranges = part_width place 1 ranges
old_width_bounded (splice.Join place range) ranges = part_width place 2 ranges

-- some ranges of a list are replaced
width_spliced : (place count : ℕ) (ranges new : List (ℕ × ℕ)) → width_of (take place ranges ++ (new ++ drop (place + count) ranges)) + width_of (take count (drop place ranges)) ≡ width_of ranges + width_of new
width_spliced place count ranges new =
    omega (
      arith,
      width-append (take place ranges) (new ++ drop (place + count) ranges),
      width-append new (drop (place + count) ranges),
      width-append (take place ranges) (drop place ranges),
      ap width_of (take-append-drop place ranges),
      width-append (take count (drop place ranges)) (drop count (drop place ranges)),
      ap width_of (take-append-drop count (drop place ranges)),
      ap width_of (drop-drop count place ranges),
    )

pub spliced_width : (s : Splice) (ranges : List (ℕ × ℕ)) → width_of (after_splice s ranges) + width_of (old_ranges s ranges) ≡ width_of ranges + width_of (new_ranges s)
spliced_width (splice.Insert place range) ranges =
    omega (arith, width-append (take place ranges) (range ∷ drop place ranges), width-append (range ∷ []) (drop place ranges), width-append (take place ranges) (drop place ranges), ap width_of (take-append-drop place ranges))
spliced_width (splice.Replace place range) ranges = width_spliced place 1 ranges (range ∷ [])
spliced_width (splice.Remove place) ranges = width_spliced place 1 ranges []
spliced_width (splice.Split place first second) ranges = width_spliced place 1 ranges (first ∷ (second ∷ []))
spliced_width (splice.Join place range) ranges = width_spliced place 2 ranges (range ∷ [])

-- an element is removed, and then the one before it is replaced
pub set_before : {X : Type 0} (xs rest : List X) (i n : ℕ) (x : X) → i < length xs → n ≡ i + 1 → slice_set (take n xs ++ rest) i x ≡ take i xs ++ x ∷ rest
set_before {X} [] rest i n x lt e = absurd (omega arith)
set_before {X} (y ∷ ys) rest i zero x lt e = absurd (omega arith)
set_before {X} (y ∷ ys) rest zero (suc n) x lt e =
    let none : n ≡ 0 = omega arith in
    ap (λ k. x ∷ (take k ys ++ rest)) none
set_before {X} (y ∷ ys) rest (suc i) (suc n) x lt e = ap (λ (l : List X). y ∷ l) (set_before ys rest i n x (omega arith) (omega arith))

-- ---- an insertion

-- the ranges after those that a range touches, from their number
rest_of_count : (k m : ℕ) (ranges rest : List (ℕ × ℕ)) → rest ≡ drop (length (drop k ranges) - length rest) (drop k ranges) → length ranges - k - length rest ≡ m → rest ≡ drop (k + m) ranges
rest_of_count k m ranges rest suffix many =
    let count : length (drop k ranges) - length rest ≡ m = omega (arith, length-drop k ranges, many) in
    suffix ∙ ap (λ n. drop n (drop k ranges)) count ∙ drop-drop m k ranges

pub inserts : (from to start end k m : ℕ) (ranges rest : List (ℕ × ℕ)) (s : Splice) → IsNormal ranges → from < to → to ≤ pixel_count → k ≤ length ranges → EndsBy (from - 1) (all_ranges (λ (r : ℕ × ℕ). r ∷ []) (take k ranges)) → EndsAfterAt (λ (r : ℕ × ℕ). r ∷ []) ranges (from - 1) k → start ≡ min from (next_of (drop k ranges)) → IsMergedRange start to (drop k ranges) end rest
    → length ranges - k - length rest ≡ m → ((l : List (ℕ × ℕ)) → l ≡ drop (k + m) ranges → after_splice s ranges ≡ take k ranges ++ (start, end) ∷ l) → FitsSplice s (length ranges) → IsSplice Insert from to ranges s
inserts from to start end k m ranges rest s normal filled within bound ended past is merged many shape fits = record {
  fits = fits;
  edited = range_inserted_at_cut from to start end k ranges rest (after_splice s ranges) normal filled within ended past is merged (shape rest (rest_of_count k m ranges rest merged.suffix many));
}

-- the shapes of splices with 0, 1 and 2 ranges replaced
pub insert_shape : (k : ℕ) (ranges l : List (ℕ × ℕ)) (x : ℕ × ℕ) → l ≡ drop (k + 0) ranges → insert ranges k x ≡ take k ranges ++ x ∷ l
insert_shape k ranges l x is = ap (λ n. take k ranges ++ x ∷ drop n ranges) (omega arith) ∙ ap (λ (t : List (ℕ × ℕ)). take k ranges ++ x ∷ t) (sym is)

pub replace_shape : (k m : ℕ) (ranges l : List (ℕ × ℕ)) (x : ℕ × ℕ) → l ≡ drop (k + m) ranges → take k ranges ++ x ∷ drop (k + m) ranges ≡ take k ranges ++ x ∷ l
replace_shape k m ranges l x is = ap (λ (t : List (ℕ × ℕ)). take k ranges ++ x ∷ t) (sym is)

-- ---- a removal

ends_later : (n m : ℕ) (ranges : List (ℕ × ℕ)) → n ≤ m → EndsBy n ranges → EndsBy m ranges
ends_later n m [] le ended = tt
ends_later n m (r ∷ ranges) le ended = (omega (arith, ended.0), ends_later n m ranges le ended.1)

from_all : (limit : ℕ) (ranges : List (ℕ × ℕ)) → IsNormal ranges → limit ≤ next_of ranges → parts_from limit ranges ≡ ranges
from_all limit [] normal le = refl
from_all limit (r ∷ ranges) normal le =
    let past : nat_lt limit r.1 ≡ true = is_less limit r.1 (omega (arith, normal.0)) in
    let whole : max r.0 limit ≡ r.0 = omega arith in
    ap (λ b. cond b ((max r.0 limit, r.1) ∷ parts_from limit ranges) (parts_from limit ranges)) past
    ∙ (λ i. (whole i, r.1) ∷ from_all limit ranges normal.3 (omega (arith, normal.0, after_first r ranges normal)) i)

-- the ranges before the removed one, and what is left after it
module _ (from to k : ℕ) (ranges more : List (ℕ × ℕ)) (r : ℕ × ℕ) (normal : IsNormal ranges) (filled : from < to)
    (ended : EndsBy from (all_ranges (λ (r : ℕ × ℕ). r ∷ []) (take k ranges))) (next : drop k ranges ≡ r ∷ more) (past : from < r.1) (later : to ≤ next_of more) where
  rest_normal : IsNormal (r ∷ more)
  rest_normal = subst IsNormal next (IsNormal-suffix (take k ranges) (drop k ranges) (subst IsNormal (sym (take-append-drop k ranges)) normal))

  from_rest : parts_from to ranges ≡ cond (nat_lt to r.1) ((max r.0 to, r.1) ∷ more) more
  from_rest =
      ap (parts_from to) (sym (take-append-drop k ranges))
      ∙ from_dropped to (take k ranges) (drop k ranges) (ends_later from to (take k ranges) (omega arith) (ended_first from k ranges ended))
      ∙ ap (parts_from to) next
      ∙ ap (λ (l : List (ℕ × ℕ)). cond (nat_lt to r.1) ((max r.0 to, r.1) ∷ l) l) (from_all to more rest_normal.3 later)

  kept_after : to < r.1 → parts_from to ranges ≡ (max r.0 to, r.1) ∷ drop (k + 1) ranges
  kept_after lt = from_rest ∙ ap (λ b. cond b ((max r.0 to, r.1) ∷ more) more) (is_less to r.1 lt) ∙ ap (λ (l : List (ℕ × ℕ)). (max r.0 to, r.1) ∷ l) (rest_after k ranges more r next)

  none_after : r.1 ≤ to → parts_from to ranges ≡ drop (k + 1) ranges
  none_after le = from_rest ∙ ap (λ b. cond b ((max r.0 to, r.1) ∷ more) more) (not_less to r.1 le) ∙ rest_after k ranges more r next

  is_inside : k < length ranges
  is_inside = omega (arith, ap length next, length-drop k ranges)

  pub splits : r.0 < from → to < r.1 → to ≤ pixel_count → IsSplice Remove from to ranges (splice.Split k (r.0, from) (max r.0 to, r.1))
  splits left right within = record {
    fits = is_inside;
    edited = cut_out from to ranges _ normal filled within
        (sym (append_assoc (take k ranges) ((r.0, from) ∷ []) ((max r.0 to, r.1) ∷ drop (k + 1) ranges))
        ∙ sym (λ i. below_cut from k ranges more r normal ended next past left i ++ kept_after right i));
  }

  pub cuts_end : r.0 < from → r.1 ≤ to → to ≤ pixel_count → IsSplice Remove from to ranges (splice.Replace k (r.0, from))
  cuts_end left right within = record {
    fits = is_inside;
    edited = cut_out from to ranges _ normal filled within
        (sym (append_assoc (take k ranges) ((r.0, from) ∷ []) (drop (k + 1) ranges))
        ∙ sym (λ i. below_cut from k ranges more r normal ended next past left i ++ none_after right i));
  }

  pub cuts_start : from ≤ r.0 → to < r.1 → to ≤ pixel_count → IsSplice Remove from to ranges (splice.Replace k (max r.0 to, r.1))
  cuts_start left right within = record {
    fits = is_inside;
    edited = cut_out from to ranges _ normal filled within (sym (λ i. below_uncut from k ranges more r normal ended next past left i ++ kept_after right i));
  }

  pub removes : from ≤ r.0 → r.1 ≤ to → to ≤ pixel_count → IsSplice Remove from to ranges (splice.Remove k)
  removes left right within = record {
    fits = is_inside;
    edited = cut_out from to ranges _ normal filled within (sym (λ i. below_uncut from k ranges more r normal ended next past left i ++ none_after right i));
  }

-- ---- the block of the range

split_of_one : (before after : List (List (ℕ × ℕ))) (ranges : List (ℕ × ℕ)) → KeepsFillRule (last_length before) (length ranges) (first_length after) → IsSplit 128 (last_length before) (first_length after) ranges ranges []
split_of_one before after ranges keeps = record {
  parts = append_empty ranges;
  filled = (keeps.some, keeps.fits, tt, tt);
  front = keeps.front;
  back = keeps.back;
}

pub block_splice : (edit : EditKind) (from to front back : ℕ) (nodes before after : List (List (List (ℕ × ℕ)))) (node left right : List (List (ℕ × ℕ))) (run : List (ℕ × ℕ)) (s : Splice) → IsStored [] nodes → nodes ≡ before ++ node ∷ after → EndsBelow from (concat (concat before)) → node ≡ left ++ run ∷ right → EndsBelow from (concat left)
    → to < next_of (concat right ++ concat (concat after)) → IsSplice edit from to run s → front ≡ last_length (concat before ++ left) → back ≡ first_length (right ++ concat after) → KeepsFillRule front (length (after_splice s run)) back → IsBlockSplice edit from to nodes (length before) (length left) s
block_splice edit from to front back nodes before after node left right run s stored parts below1 here below2 above edits front_is back_is keeps =
    let sized = subst AreBlocks (concat_around_node nodes before after node parts) stored.sized in
    let normal = subst (λ (l : List (List (ℕ × ℕ))). IsNormal (concat l)) (concat_around_node nodes before after node parts) stored.normal in
    let ranges = after_splice s run in
    let split = split_of_one (concat before ++ left) (right ++ concat after) ranges (subst (λ n. KeepsFillRule n (length ranges) (first_length (right ++ concat after))) front_is (subst (λ n. KeepsFillRule front (length ranges) n) back_is keeps)) in
    record {
      ranges = ranges;
      block_edit = record {
        before = before;
        old = node;
        after = after;
        parts = parts;
        at = refl;
        left = left;
        run = run;
        right = right;
        place = refl;
        edited_block = record {
          parts = here;
          filled = split.filled;
          normal = subst IsNormal (sym (append_empty ranges)) edits.edited.normal;
          node_blocks = node_blocks_after_regrowth edit from to (concat before) (concat after) node left right run ranges ranges [] _ _ (left ++ ranges ∷ right) sized normal here below1 below2 above edits.edited refl refl split refl;
        };
      };
      was_normal = run_normal (concat before) node node left right (concat after) run refl here normal;
      fits = edits.fits;
      made = refl;
    }

-- ---- the splice of a block

-- the block of the splice, as the code finds it
pub splice_run : (edit : EditKind) (from to node block : ℕ) (s : Splice) (nodes nodes' : List (List (List (ℕ × ℕ)))) (found : List (List (ℕ × ℕ))) → nodes' ≡ nodes → (b : IsBlockSplice edit from to nodes' node block s) → found ≡ get_or nodes node found → get_or found block [] ≡ b.block_edit.run
splice_run edit from to node block s nodes nodes' found same b is =
    let whole = block_edit_node edit from to node block nodes nodes' b.ranges found same b.block_edit is ∙ b.block_edit.edited_block.parts in
    ap (λ (l : List (List (ℕ × ℕ))). get_or l block []) whole ∙ get_between b.block_edit.left b.block_edit.right b.block_edit.run [] block b.block_edit.place

pub splice_ranges : (edit : EditKind) (from to node block : ℕ) (s : Splice) (nodes nodes' : List (List (List (ℕ × ℕ)))) (found : List (List (ℕ × ℕ))) → nodes' ≡ nodes → (b : IsBlockSplice edit from to nodes' node block s) → found ≡ get_or nodes node found → after_splice s (get_or found block []) ≡ b.ranges
splice_ranges edit from to node block s nodes nodes' found same b is =
    ap (after_splice s) (splice_run edit from to node block s nodes nodes' found same b is) ∙ sym b.made

-- the requirements of the splice on the node
pub can_splice : (edit : EditKind) (from to node block : ℕ) (s : Splice) (nodes nodes' : List (List (List (ℕ × ℕ)))) (found : List (List (ℕ × ℕ))) → nodes' ≡ nodes → IsBlockSplice edit from to nodes' node block s → found ≡ get_or nodes node found → CanSplice found block s
can_splice edit from to node block s nodes nodes' found same b is =
    let run = splice_run edit from to node block s nodes nodes' found same b is in
    let made = splice_ranges edit from to node block s nodes nodes' found same b is in
    let whole = block_edit_node edit from to node block nodes nodes' b.ranges found same b.block_edit is ∙ b.block_edit.edited_block.parts in
    let filled = b.block_edit.edited_block.filled in
    record {
      there = omega (arith, ap length whole, length-append b.block_edit.left (b.block_edit.run ∷ b.block_edit.right), b.block_edit.place);
      was_normal = subst IsNormal (sym run) b.was_normal;
      fits = subst (λ (l : List (ℕ × ℕ)). FitsSplice s (length l)) (sym run) b.fits;
      some = omega (arith, ap length made, filled.0);
      small = omega (arith, ap length made, filled.1);
      normal = block_edit_normal edit from to node block nodes nodes' b.ranges _ found same b.block_edit is made;
      sized = block_edit_sized edit from to node block nodes nodes' b.ranges _ found same b.block_edit is made;
    }

-- a block with its ranges changed is a block of its node
spliced_there : (node : List (List (ℕ × ℕ))) (block : ℕ) (run : List (ℕ × ℕ)) → block < length node → IsNormal (concat (slice_set node block run)) → IsNormal run
spliced_there [] block run there normal = absurd (omega arith)
spliced_there (b ∷ bs) zero run there normal = IsNormal-prefix run (concat bs) normal
spliced_there (b ∷ bs) (suc block) run there normal = spliced_there bs block run (omega arith) (IsNormal-suffix b (concat (slice_set bs block run)) normal)

pub spliced_normal : (node : List (List (ℕ × ℕ))) (block : ℕ) (s : Splice) → CanSplice node block s → IsNormal (after_splice s (get_or node block []))
spliced_normal node block s can = spliced_there node block (after_splice s (get_or node block [])) can.there can.normal

same_at : {X : Type 0} (xs : List X) (i : ℕ) (x d : X) → i < length xs → x ≡ get_or xs i x → x ≡ get_or xs i d
same_at {X} [] i x d lt is = absurd (omega arith)
same_at {X} (y ∷ xs) zero x d lt is = is
same_at {X} (y ∷ xs) (suc i) x d lt is = same_at xs i x d (omega arith) is

-- an element that was replaced
pub set_again : {X : Type 0} (xs : List X) (i : ℕ) (new again : X) → i < length xs → again ≡ get_or (slice_set xs i new) i again → again ≡ new
set_again {X} xs i new again lt is = is ∙ get_or-set_same xs i new again lt

-- the blocks after the splice
pub spliced_is : (blocks node : List (List (ℕ × ℕ))) (block : ℕ) (s : Splice) (found new : List (ℕ × ℕ)) → blocks ≡ node → block < length node → found ≡ get_or blocks block found → new ≡ after_splice s found → slice_set blocks block new ≡ slice_set node block (after_splice s (get_or node block []))
spliced_is blocks node block s found new same lt is made =
    let there : found ≡ get_or node block [] = same_at node block found [] lt (is ∙ ap (λ (l : List (List (ℕ × ℕ))). get_or l block found) same) in
    λ i. slice_set (same i) block ((made ∙ ap (after_splice s) there) i)

pub on_true : {P : Type 0} (b : Bool) → b ≡ true → OnTrue b P → P
on_true {P} b is holds = subst (λ (t : Bool). OnTrue t P) is holds
