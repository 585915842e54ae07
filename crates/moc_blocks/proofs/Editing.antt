-- A list of blocks with one range inserted or removed.
use Rattle.std.proofs.Common.{◌≡◌, ℕ, zero, suc, ◌+◌, ◌-◌, ◌<◌, ◌≤◌, Bool, true, false, ◌||◌, ◌&&◌, min, max, List, []}
use Rattle.std.proofs.Common.{◌∷◌, ◌++◌, length, get_or, take, drop, refl, sym, ap, subst, ◌∙◌, arith, append_assoc}
use Rattle.std.proofs.Common.{drop-drop, length-append}
use Rattle.std.specs.Prelude.{not, slice_set, Option, None, Some, IfSome, MatchOption}
use Rattle.std.specs.List.{insert}
use Rattle.std.specs.FinSet as set
use Rattle.std.specs.Cmp.{nat_cmp_total}
use Rattle.std.proofs.lemmas.Bool.{false≢true}
use Rattle.std.proofs.lemmas.Bool.Decides.{nat_tests}
use Rattle.std.proofs.lemmas.List.{take-append-drop, take_rest}
use Rattle.moc_blocks.specs.RangeList.{pixel_count, BeginsAfter, IsNormal, set_of, numbers}
use Rattle.moc_blocks.specs.Lemmas.Members.{in_range, in_ranges, contains-set_of, contains-numbers, same_members, in_ranges-append, or_assoc}
use Rattle.moc_blocks.specs.Lemmas.Sizes.{len_parts}
use Rattle.moc_blocks.specs.Lemmas.Ranges.{later_only, len-set_of}
use Rattle.moc_blocks.specs.Blocks.{concat, ObeysFillRule, AreBlocks}
use Rattle.moc_blocks.specs.Private.Blocks.{next_of, last_of, width_of, IsStored}
use Rattle.moc_blocks.specs.Private.Built.{EndsBelow, first_length, last_length}
use Rattle.moc_blocks.specs.Private.Walks.{all_ranges, EndsBy, EndsAfterAt}
use Rattle.moc_blocks.specs.Private.Edits.{pieces, one_or_two, after_edit, IsSplitAtRun, IsMergedRange, IsEdited, AreEditedRanges, IsSplit}
use Rattle.moc_blocks.specs.Private.Edits.{AddsRange, RemovesRange, IsEdit, IsNodeBlocks, IsNodeEdit, ReplacesNode}
use Rattle.moc_blocks.specs.declared.edits.rebuild.EditKind.{EditKind}
use Rattle.moc_blocks.specs.declared.edits.rebuild.EditKind.TheVariants.{Insert, Remove}
use Rattle.moc_blocks.specs.declared.edits.rebuild.Edit.{Edit}
use Rattle.moc_blocks.specs.declared.edits.rebuild.Edit.TheVariants.{Block, Node}
use Rattle.moc_blocks.proofs.Blocking.{IsNormal-prefix, IsNormal-suffix, concat-append, append_empty, split_first}
use Rattle.moc_blocks.proofs.Filling.{fill_rule_suffix}
use Rattle.moc_blocks.proofs.Merging.{EndsBelow-append, EndsBelow-first, ends_second, ends_next}
use Rattle.moc_blocks.proofs.Merging.{normal_append, next_append}
use Rattle.moc_blocks.proofs.Passing.{all_ranges-parts, all_ranges-ranges, ends_by-left, ends_by-right, ends_by-append}

-- the list after one of its elements
pub rest_after : {X : Type 0} (k : ℕ) (xs more : List X) (x : X) → drop k xs ≡ x ∷ more → more ≡ drop (k + 1) xs
rest_after {X} k xs more x next = sym (ap (drop 1) next) ∙ drop-drop 1 k xs

-- the state of merging a range with the ranges that it touches
pub record IsReaching (start to : ℕ) (whole : List (ℕ × ℕ)) (end : ℕ) (rest : List (ℕ × ℕ)) : Type 0 where
  pub normal : IsNormal rest
  pub filled : start < end
  pub within : end ≤ pixel_count
  pub later : start ≤ next_of rest
  pub fewer : length rest ≤ length whole
  pub suffix : rest ≡ drop (length whole - length rest) whole
  pub below : (f : ℕ) → to < f → EndsBelow f whole → (end < f) × EndsBelow f rest
  pub same : (q : ℕ) → (in_range (start, end) q || in_ranges rest q) ≡ (in_range (start, to) q || in_ranges whole q)

pub reaching_start : (start to : ℕ) (whole : List (ℕ × ℕ)) → IsNormal whole → start < to → to ≤ pixel_count → start ≤ next_of whole → IsReaching start to whole to whole
reaching_start start to whole normal filled within later = record {
  normal = normal;
  filled = filled;
  within = within;
  later = later;
  fewer = omega arith;
  suffix = let none : 0 ≡ length whole - length whole = omega arith in ap (λ n. drop n whole) none;
  below = λ f lt all. (lt, all);
  same = λ q. refl;
}

in_extended_range : (start end q : ℕ) (range : ℕ × ℕ) (b : Bool) → start ≤ range.0 → range.0 ≤ end → start < end → (in_range (start, max end range.1) q || b) ≡ (in_range (start, end) q || (in_range range q || b))
in_extended_range start end q range b later reached filled = grind (arith, nat_tests)

pub after_first : (range : ℕ × ℕ) (after : List (ℕ × ℕ)) → IsNormal (range ∷ after) → range.0 ≤ next_of after
after_first range [] normal = omega (arith, normal.0, normal.1)
after_first range (r ∷ after) normal = omega (arith, normal.0, normal.2)

reaching_next : (start to end : ℕ) (whole rest after : List (ℕ × ℕ)) (range : ℕ × ℕ) → rest ≡ range ∷ after → IsReaching start to whole end rest → range.0 ≤ end → IsReaching start to whole (max end range.1) after
reaching_next start to end whole rest after range parts s0 reached =
    let s = subst (λ (l : List (ℕ × ℕ)). IsReaching start to whole end l) parts s0 in
    let normal = s.normal in
    let next = after_first range after normal in
    record {
      normal = normal.3;
      filled = omega (arith, s.filled);
      within = omega (arith, s.within, normal.1);
      later = omega (arith, s.later, next);
      fewer = omega (arith, s.fewer);
      suffix =
          let count : length whole - length (range ∷ after) + 1 ≡ length whole - length after = omega (arith, s.fewer) in
          rest_after _ whole after range (sym s.suffix) ∙ ap (λ n. drop n whole) count;
      below = λ f lt all. let b = s.below f lt all in (omega (arith, b.0, b.1.0), b.1.1);
      same = λ q. in_extended_range start end q range (in_ranges after q) s.later reached s.filled ∙ s.same q;
    }

pub reaching_step : (start to end end' : ℕ) (whole rest after : List (ℕ × ℕ)) (range : ℕ × ℕ) → rest ≡ range ∷ after → IsReaching start to whole end rest → range.0 ≤ end → end' ≡ max end range.1 → IsReaching start to whole end' after
reaching_step start to end end' whole rest after range parts s0 reached is = subst (λ e. IsReaching start to whole e after) (sym is) (reaching_next start to end whole rest after range parts s0 reached)

-- the next range is not touched
pub merged_range_at_end : (start to end : ℕ) (whole rest : List (ℕ × ℕ)) → IsReaching start to whole end rest → end < next_of rest → IsMergedRange start to whole end rest
merged_range_at_end start to end whole [] s lt = record {
  normal = (s.filled, s.within, tt, tt);
  fewer = s.fewer;
  suffix = s.suffix;
  below = λ f lt all. s.below f lt all;
  same = s.same;
}
merged_range_at_end start to end whole (r ∷ rest) s lt = record {
  normal = (s.filled, s.within, lt, s.normal);
  fewer = s.fewer;
  suffix = s.suffix;
  below = λ f lt all. s.below f lt all;
  same = s.same;
}

pub merged_range_before_next : (start to end : ℕ) (whole rest after : List (ℕ × ℕ)) (range : ℕ × ℕ) → rest ≡ range ∷ after → IsReaching start to whole end rest → end < range.0 → IsMergedRange start to whole end rest
merged_range_before_next start to end whole rest after range parts s lt = merged_range_at_end start to end whole rest s (subst (λ (l : List (ℕ × ℕ)). end < next_of l) (sym parts) lt)

pub reach_all : (start to end : ℕ) (whole rest : List (ℕ × ℕ)) → rest ≡ [] → IsReaching start to whole end rest → IsMergedRange start to whole end rest
reach_all start to end whole rest none s = merged_range_at_end start to end whole rest s (subst (λ (l : List (ℕ × ℕ)). end < next_of l) (sym none) (omega (arith, s.within)))

-- ---- the position of a range

ends_strictly : (from : ℕ) (rs : List (ℕ × ℕ)) → IsNormal rs → EndsBy (from - 1) rs → EndsBelow from rs
ends_strictly from [] normal all = tt
ends_strictly from (r ∷ rs) normal all = (omega (arith, normal.0, all.0), ends_strictly from rs normal.3 all.1)

ends_by_fewer : {T : Type 0} (f : T → List (ℕ × ℕ)) (runs : List T) (limit m n : ℕ) → m ≤ n → EndsBy limit (all_ranges f (take n runs)) → EndsBy limit (all_ranges f (take m runs))
ends_by_fewer {T} f [] limit zero n le all = tt
ends_by_fewer {T} f [] limit (suc m) n le all = tt
ends_by_fewer {T} f (x ∷ runs) limit zero n le all = tt
ends_by_fewer {T} f (x ∷ runs) limit (suc m) zero le all = absurd (omega arith)
ends_by_fewer {T} f (x ∷ runs) limit (suc m) (suc n) le all = ends_by-append limit (f x) (all_ranges f (take m runs)) (ends_by-left limit (f x) (all_ranges f (take n runs)) all) (ends_by_fewer f runs limit m n (omega arith) (ends_by-right limit (f x) (all_ranges f (take n runs)) all))

pub run_ends_below : {T : Type 0} (f : T → List (ℕ × ℕ)) (runs : List T) (from m n : ℕ) → IsNormal (all_ranges f runs) → m ≤ n → EndsBy (from - 1) (all_ranges f (take n runs)) → EndsBelow from (all_ranges f (take m runs))
run_ends_below {T} f runs from m n normal le all =
    ends_strictly from (all_ranges f (take m runs)) (IsNormal-prefix (all_ranges f (take m runs)) (all_ranges f (drop m runs)) (subst IsNormal (all_ranges-parts f runs m) normal)) (ends_by_fewer f runs (from - 1) m n le all)

-- ---- a list with one range inserted

first_ends_after : (rs : List (ℕ × ℕ)) (k from : ℕ) → EndsAfterAt (λ (r : ℕ × ℕ). r ∷ []) rs (from - 1) k → (r : ℕ × ℕ) (more : List (ℕ × ℕ)) → drop k rs ≡ r ∷ more → from ≤ r.1
first_ends_after [] zero from past r more e = absurd (omega (arith, ap length e))
first_ends_after [] (suc k) from past r more e = absurd (omega (arith, ap length e))
first_ends_after (s ∷ rs) zero from past r more e = omega (arith, past s (omega arith), ap (λ (l : List (ℕ × ℕ)). last_of (take 1 l)) e)
first_ends_after (s ∷ rs) (suc k) from past r more e = first_ends_after rs k from (λ x lt. past x (omega arith)) r more e

in_range_from_minimum : (from to start q low high : ℕ) (b : Bool) → from < to → start ≡ min from low → from ≤ high → (in_range (start, to) q || (in_range (low, high) q || b)) ≡ ((in_range (low, high) q || b) || in_range (from, to) q)
in_range_from_minimum from to start q low high b filled is reached = grind (arith, nat_tests)

in_ranges_from_start : (from to start q : ℕ) (rs : List (ℕ × ℕ)) → from < to → to ≤ pixel_count → start ≡ min from (next_of rs) → ((r : ℕ × ℕ) (more : List (ℕ × ℕ)) → rs ≡ r ∷ more → from ≤ r.1) → (in_range (start, to) q || in_ranges rs q) ≡ (in_ranges rs q || in_range (from, to) q)
in_ranges_from_start from to start q [] filled within is past =
    let same : start ≡ from = omega arith in
    grind (arith, nat_tests)
in_ranges_from_start from to start q (r ∷ rs) filled within is past =
    let reached : from ≤ r.1 = past r rs refl in
    let b : Bool = in_ranges rs q in
    in_range_from_minimum from to start q r.0 r.1 b filled is reached

ends_min : (f g start : ℕ) (rs : List (ℕ × ℕ)) → EndsBelow f rs → EndsBelow g rs → min f g ≤ start → EndsBelow start rs
ends_min f g start [] all more least = tt
ends_min f g start (r ∷ rs) all more least = (omega (arith, all.0, more.0), ends_min f g start rs all.1 more.1 least)

first_min : (from start end : ℕ) (first after rest : List (ℕ × ℕ)) → EndsBelow from first → start ≡ min from (next_of after) → IsNormal (first ++ after) → next_of (first ++ (start, end) ∷ rest) ≡ min from (next_of (first ++ after))
first_min from start end [] after rest before is normal = is
first_min from start end (r ∷ first) after rest before is normal = omega (arith, before.0, normal.0)

-- a list whose first ranges end before a range, which is merged with the ranges of the rest that it touches
pub one_more : (from to start end : ℕ) (first after rest : List (ℕ × ℕ)) → IsNormal (first ++ after) → from < to → to ≤ pixel_count → EndsBelow from first → ((r : ℕ × ℕ) (more : List (ℕ × ℕ)) → after ≡ r ∷ more → from ≤ r.1) → start ≡ min from (next_of after) → IsMergedRange start to after end rest → AreEditedRanges Insert from to (first ++ after) (first ++ (start, end) ∷ rest)
one_more from to start end first after rest normal filled within before past is s =
    let start_below : EndsBelow start first = ends_min from (next_of after) start first before (ends_next first after normal) (omega arith) in
    record {
      normal = normal_append first ((start, end) ∷ rest) (IsNormal-prefix first after normal) s.normal start_below;
      first = omega (arith, first_min from start end first after rest before is normal);
      below = λ f lt all. EndsBelow-append f first ((start, end) ∷ rest) (EndsBelow-first f first after all) (s.below f lt (ends_second f first after all));
      same = λ q. in_ranges-append first ((start, end) ∷ rest) q
          ∙ ap (λ b. in_ranges first q || b) (s.same q ∙ in_ranges_from_start from to start q after filled within is past)
          ∙ sym (or_assoc (in_ranges first q) (in_ranges after q) (in_range (from, to) q))
          ∙ ap (λ b. b || in_range (from, to) q) (sym (in_ranges-append first after q));
    }

pub range_inserted_at_cut : (from to start end k : ℕ) (ranges rest new : List (ℕ × ℕ)) → IsNormal ranges → from < to → to ≤ pixel_count → EndsBy (from - 1) (all_ranges (λ (r : ℕ × ℕ). r ∷ []) (take k ranges)) → EndsAfterAt (λ (r : ℕ × ℕ). r ∷ []) ranges (from - 1) k → start ≡ min from (next_of (drop k ranges)) → IsMergedRange start to (drop k ranges) end rest → new ≡ take k ranges ++ (start, end) ∷ rest → AreEditedRanges Insert from to ranges new
range_inserted_at_cut from to start end k ranges rest new normal filled within ended past is s made =
    let whole = take-append-drop k ranges in
    let before = subst (λ (l : List (ℕ × ℕ)). EndsBelow from l) (all_ranges-ranges (take k ranges)) (run_ends_below (λ (r : ℕ × ℕ). r ∷ []) ranges from k k (subst IsNormal (sym (all_ranges-ranges ranges)) normal) (omega arith) ended) in
    let more = one_more from to start end (take k ranges) (drop k ranges) rest (subst IsNormal (sym whole) normal) filled within before (λ r more e. first_ends_after ranges k from past r more e) is s in
    subst (λ (l : List (ℕ × ℕ)). AreEditedRanges Insert from to ranges l) (sym made) (subst (λ (l : List (ℕ × ℕ)). AreEditedRanges Insert from to l (take k ranges ++ (start, end) ∷ rest)) whole more)

-- ---- around a run

pub around_at : {T : Type 0} (f : T → List (ℕ × ℕ)) (runs : List T) (from m n : ℕ) (run : T) → IsNormal (all_ranges f runs) → m ≤ n → EndsBy (from - 1) (all_ranges f (take n runs)) → 1 ≤ length (take (length runs - m) (drop m runs)) → run ≡ get_or (take (length runs - m) (drop m runs)) 0 run → IsSplitAtRun f from runs (take m runs) run (take (length (take (length runs - m) (drop m runs)) - 1) (drop 1 (take (length runs - m) (drop m runs))))
around_at {T} f runs from m n run normal le all some is = record {
  parts = sym (take-append-drop m runs) ∙ ap (λ (l : List T). take m runs ++ l) (sym (take_rest runs m) ∙ split_first _ run some is);
  below = run_ends_below f runs from m n normal le all;
}

pub some_of : {X : Type 0} (P : X → Type 0) (o : Option X) (x : X) → o ≡ Some x → IfSome o P → P x
some_of {X} P o x is holds = subst (λ (p : Option X). IfSome p P) is holds

-- ---- lists with one element replaced

pub fill_rule_prefix : {X : Type 0} → (most : ℕ) (ls ms : List (List X)) → ObeysFillRule most (ls ++ ms) → ObeysFillRule most ls
fill_rule_prefix most [] ms ok = tt
fill_rule_prefix most (l ∷ []) ms ok = (ok.0, ok.1, tt, tt)
fill_rule_prefix most (l ∷ (l' ∷ ls)) ms ok = (ok.0, ok.1, ok.2, fill_rule_prefix most (l' ∷ ls) ms ok.3)

first_length-more : {X : Type 0} → (ls ms : List (List X)) → 0 < length ls → first_length (ls ++ ms) ≡ first_length ls
first_length-more [] ms some = absurd (omega arith)
first_length-more (l ∷ ls) ms some = refl

pieces_some : {X : Type 0} → (first second : List X) → 0 < length (pieces first second)
pieces_some first [] = omega arith
pieces_some first (y ∷ ys) = omega arith

concat-pieces : {X : Type 0} → (first second : List X) → concat (pieces first second) ≡ first ++ second
concat-pieces {X} first [] = refl
concat-pieces {X} first (y ∷ ys) = ap (λ (l : List X). first ++ l) (append_empty (y ∷ ys))

fill_rule_join : {X : Type 0} → (most : ℕ) (ls ms : List (List X)) → ObeysFillRule most ls → ObeysFillRule most ms → (0 < last_length ls → 0 < first_length ms → most < last_length ls + first_length ms) → ObeysFillRule most (ls ++ ms)
fill_rule_join most [] ms ok more seam = more
fill_rule_join most (l ∷ []) [] ok more seam = ok
fill_rule_join most (l ∷ []) (m ∷ ms) ok more seam = (ok.0, ok.1, seam ok.0 more.0, more)
fill_rule_join most (l ∷ (l' ∷ ls)) ms ok more seam = (ok.0, ok.1, ok.2, fill_rule_join most (l' ∷ ls) ms ok.3 more seam)

pub fill_rule_after_replacement : {X : Type 0} → (most : ℕ) (before after middle : List (List X)) → ObeysFillRule most before → ObeysFillRule most after → ObeysFillRule most middle → 0 < length middle → (0 < last_length before → most < last_length before + first_length middle) → (0 < first_length after → most < last_length middle + first_length after) → ObeysFillRule most (before ++ (middle ++ after))
fill_rule_after_replacement {X} most before after middle first rest new some front back =
    let same = first_length-more middle after some in
    fill_rule_join most before (middle ++ after) first
    (fill_rule_join most middle after new rest (λ some_last some_first. back some_first))
    (λ some_last some_first. subst (λ n. most < last_length before + n) (sym same) (front some_last))

-- the lists before and after one obey the fill rule
fill_rule_around : {X : Type 0} → (most : ℕ) (before after : List (List X)) (old : List X) → ObeysFillRule most (before ++ old ∷ after) → ObeysFillRule most before × ObeysFillRule most after
fill_rule_around most before after old ok = (fill_rule_prefix most before (old ∷ after) ok, fill_rule_suffix most (old ∷ []) after (fill_rule_suffix most before (old ∷ after) ok))

append_spread : {X : Type 0} → (before first middle second after : List X) → before ++ ((first ++ (middle ++ second)) ++ after) ≡ (before ++ first) ++ (middle ++ (second ++ after))
append_spread {X} before first middle second after =
    ap (λ (l : List X). before ++ l) (append_assoc first (middle ++ second) after ∙ ap (λ (l : List X). first ++ l) (append_assoc middle second after))
    ∙ sym (append_assoc before first (middle ++ (second ++ after)))

-- ---- the number of new pixels

old_of_union : (o n : Bool) → ((o || n) && o) ≡ o
old_of_union true n = refl
old_of_union false true = refl
old_of_union false false = refl

new_of_union : (o n : Bool) → ((o || n) && not o) ≡ (n && not o)
new_of_union true true = refl
new_of_union true false = refl
new_of_union false true = refl
new_of_union false false = refl

pub width_after_insertion : (from to : ℕ) (old new : List (ℕ × ℕ)) → IsNormal old → IsNormal new → IsEdited Insert from to old new → width_of new ≡ width_of old + set.len (set.difference (numbers from to) (set_of old))
width_after_insertion from to old new normal normal' same =
    let has : (q : ℕ) → set.contains (set_of new) q ≡ (set.contains (set_of old) q || set.contains (numbers from to) q) = λ q. contains-set_of new q ∙ same q ∙ (λ i. sym (contains-set_of old q) i || sym (contains-numbers from to q) i) in
    let common : set.intersection (set_of new) (set_of old) ≡ set_of old = same_members _ _ (λ q. set.contains-intersection nat_cmp_total (set_of new) (set_of old) q ∙ ap (λ b. b && set.contains (set_of old) q) (has q) ∙ old_of_union (set.contains (set_of old) q) (set.contains (numbers from to) q)) in
    let more : set.difference (set_of new) (set_of old) ≡ set.difference (numbers from to) (set_of old) = same_members _ _ (λ q. set.contains-difference nat_cmp_total (set_of new) (set_of old) q ∙ ap (λ b. b && not (set.contains (set_of old) q)) (has q) ∙ new_of_union (set.contains (set_of old) q) (set.contains (numbers from to) q) ∙ sym (set.contains-difference nat_cmp_total (numbers from to) (set_of old) q)) in
    omega (arith, len_parts (set_of new) (set_of old), ap set.len common, ap set.len more, len-set_of old normal, len-set_of new normal')

-- the set after a removal
pub shrunk_set : (from to : ℕ) (old new : List (ℕ × ℕ)) → IsEdited Remove from to old new → set_of new ≡ set.difference (set_of old) (numbers from to)
shrunk_set from to old new same = same_members _ _ (λ q.
    contains-set_of new q ∙ same q ∙ (λ i. sym (contains-set_of old q) i && not (sym (contains-numbers from to q) i))
    ∙ sym (set.contains-difference nat_cmp_total (set_of old) (numbers from to) q))

pub shrunk_width : (from to : ℕ) (old new : List (ℕ × ℕ)) → IsNormal old → IsNormal new → IsEdited Remove from to old new → width_of new + set.len (set.intersection (set_of old) (numbers from to)) ≡ width_of old
shrunk_width from to old new normal normal' same =
    omega (arith, len_parts (set_of old) (numbers from to), ap set.len (shrunk_set from to old new same), len-set_of old normal, len-set_of new normal')

pub inserted_adds : (from to before after added : ℕ) (old new : List (ℕ × ℕ)) → IsNormal old → IsNormal new → IsEdited Insert from to old new → before ≡ width_of old → after ≡ width_of new → added ≡ after - before → (before ≤ after) × AddsRange from to old new added
inserted_adds from to before after added old new normal normal' same is_before is_after is_added =
    let wider = width_after_insertion from to old new normal normal' same in
    (omega (arith, wider, is_before, is_after), record { same = same; more = omega (arith, wider, is_before, is_after, is_added) })

pub removed_less : (from to before after removed : ℕ) (old new : List (ℕ × ℕ)) → IsNormal old → IsNormal new → IsEdited Remove from to old new → before ≡ width_of old → after ≡ width_of new → removed ≡ before - after → (after ≤ before) × RemovesRange from to old new removed
removed_less from to before after removed old new normal normal' same is_before is_after is_removed =
    let narrower = shrunk_width from to old new normal normal' same in
    (omega (arith, narrower, is_before, is_after), record { same = same; less = omega (arith, narrower, is_before, is_after, is_removed) })

-- ---- blocks after an edit of one of them

pub node_normal : (before node node' after : List (List (ℕ × ℕ))) → node ≡ node' → IsNormal (concat (before ++ (node' ++ after))) → IsNormal (concat node)
node_normal before node node' after is normal =
    subst (λ (l : List (List (ℕ × ℕ))). IsNormal (concat l)) (sym is)
    (IsNormal-prefix (concat node') (concat after) (subst IsNormal (concat-append node' after)
    (IsNormal-suffix (concat before) (concat (node' ++ after)) (subst IsNormal (concat-append before (node' ++ after)) normal))))

pub run_normal : (before node node' first second after : List (List (ℕ × ℕ))) (run : List (ℕ × ℕ)) → node ≡ node' → node ≡ first ++ run ∷ second → IsNormal (concat (before ++ (node' ++ after))) → IsNormal run
run_normal before node node' first second after run is parts normal =
    let whole = subst (λ (l : List (List (ℕ × ℕ))). IsNormal (concat l)) parts (node_normal before node node' after is normal) in
    IsNormal-prefix run (concat second) (IsNormal-suffix (concat first) (run ++ concat second) (subst IsNormal (concat-append first (run ∷ second)) whole))

pub pair_normal : (before node node' first second after : List (List (ℕ × ℕ))) (one two : List (ℕ × ℕ)) → node ≡ node' → node ≡ first ++ one ∷ (two ∷ second) → IsNormal (concat (before ++ (node' ++ after))) → IsNormal (one ++ two)
pair_normal before node node' first second after one two is parts normal =
    let whole = subst (λ (l : List (List (ℕ × ℕ))). IsNormal (concat l)) parts (node_normal before node node' after is normal) in
    let rest = IsNormal-suffix (concat first) (one ++ (two ++ concat second)) (subst IsNormal (concat-append first (one ∷ (two ∷ second))) whole) in
    IsNormal-prefix (one ++ two) (concat second) (subst IsNormal (sym (append_assoc one two (concat second))) rest)

pub replaced_normal : (edit : EditKind) (from to : ℕ) (before after run ranges : List (ℕ × ℕ)) → IsNormal (before ++ (run ++ after)) → 0 < length run → 0 < length ranges → EndsBelow from before → to < next_of after → AreEditedRanges edit from to run ranges → IsNormal (before ++ (ranges ++ after))
replaced_normal edit from to before after run ranges normal some some' below above more =
    let tail = IsNormal-suffix before (run ++ after) normal in
    let rest = normal_append ranges after more.normal (IsNormal-suffix run after tail) (more.below (next_of after) above (ends_next run after tail)) in
    let run_below : EndsBelow (next_of run) before = subst (λ n. EndsBelow n before) (next_append run after some) (ends_next before (run ++ after) normal) in
    normal_append before (ranges ++ after) (IsNormal-prefix before (run ++ after) normal) rest
    (ends_min from (next_of run) (next_of (ranges ++ after)) before below run_below (omega (arith, next_append ranges after some', more.first)))

more_last : (a r z x : Bool) → (a || ((r || x) || z)) ≡ ((a || (r || z)) || x)
more_last true r z x = refl
more_last false true z x = refl
more_last false false true true = refl
more_last false false true false = refl
more_last false false false true = refl
more_last false false false false = refl

-- a number of a range is in no range that ends before or begins after the range
less_last : (a r z x : Bool) → (x ≡ true → (a ≡ false) × (z ≡ false)) → (a || ((r && not x) || z)) ≡ ((a || (r || z)) && not x)
less_last true r z true apart = absurd (false≢true (sym (apart refl).0))
less_last false r true true apart = absurd (false≢true (sym (apart refl).1))
less_last false true false true apart = refl
less_last false false false true apart = refl
less_last true r z false apart = refl
less_last false true z false apart = refl
less_last false false true false apart = refl
less_last false false false false apart = refl

not_before : (from q : ℕ) (rs : List (ℕ × ℕ)) → EndsBelow from rs → from ≤ q → in_ranges rs q ≡ false
not_before from q [] below le = refl
not_before from q (r ∷ rs) below le = let rest = not_before from q rs below.1 le in let ended = below.0 in grind (arith, nat_tests)

begins_after : (to : ℕ) (rs : List (ℕ × ℕ)) → to < next_of rs → BeginsAfter to rs
begins_after to [] lt = tt
begins_after to (r ∷ rs) lt = lt

inside_low : (from to q : ℕ) → in_range (from, to) q ≡ true → from ≤ q
inside_low from to q is = grind (arith, nat_tests)

inside_high : (from to q : ℕ) → in_range (from, to) q ≡ true → q ≤ to
inside_high from to q is = grind (arith, nat_tests)

edit_last : (edit : EditKind) (a r z x : Bool) → (x ≡ true → (a ≡ false) × (z ≡ false)) → (a || (after_edit edit r x || z)) ≡ after_edit edit (a || (r || z)) x
edit_last Insert a r z x apart = more_last a r z x
edit_last Remove a r z x apart = less_last a r z x apart

pub replaced_edited : (edit : EditKind) (from to : ℕ) (before after run ranges : List (ℕ × ℕ)) → IsNormal after → EndsBelow from before → to < next_of after → AreEditedRanges edit from to run ranges → IsEdited edit from to (before ++ (run ++ after)) (before ++ (ranges ++ after))
replaced_edited edit from to before after run ranges normal below above more = λ q.
    in_ranges-append before (ranges ++ after) q
    ∙ ap (λ b. in_ranges before q || b) (in_ranges-append ranges after q ∙ ap (λ b. b || in_ranges after q) (more.same q))
    ∙ edit_last edit (in_ranges before q) (in_ranges run q) (in_ranges after q) (in_range (from, to) q)
    (λ is. (not_before from q before below (inside_low from to q is), later_only to q after normal (begins_after to after above) (inside_high from to q is)))
    ∙ ap (λ b. after_edit edit b (in_range (from, to) q)) (sym (in_ranges-append before (run ++ after) q ∙ ap (λ b. in_ranges before q || b) (in_ranges-append run after q)))

concat-middle : (before middle after : List (List (ℕ × ℕ))) → concat (before ++ (middle ++ after)) ≡ concat before ++ (concat middle ++ concat after)
concat-middle before middle after = concat-append before (middle ++ after) ∙ ap (λ (l : List (ℕ × ℕ)). concat before ++ l) (concat-append middle after)

fill_rule_nonempty : {X : Type 0} → (most : ℕ) (before after : List (List X)) (run : List X) → ObeysFillRule most (before ++ run ∷ after) → 0 < length run
fill_rule_nonempty most before after run ok = (fill_rule_suffix most before (run ∷ after) ok).0

-- the ranges of the pieces
some_cut : {X : Type 0} → (most front back : ℕ) (items first second : List X) → IsSplit most front back items first second → 0 < length items
some_cut {X} most front back items first [] cut = omega (arith, cut.filled.0, ap length (sym cut.parts), length-append first [])
some_cut {X} most front back items first (y ∷ ys) cut = omega (arith, cut.filled.0, ap length (sym cut.parts), length-append first (y ∷ ys))

-- ranges between blocks are edited and split into blocks
split_after_edit : (edit : EditKind) (from to front back : ℕ) (before after : List (List (ℕ × ℕ))) (run ranges first second : List (ℕ × ℕ)) → AreBlocks before → AreBlocks after → 0 < length run → IsNormal (concat before ++ (run ++ concat after)) → EndsBelow from (concat before) → to < next_of (concat after) → AreEditedRanges edit from to run ranges → front ≡ last_length before → back ≡ first_length after → IsSplit 128 front back ranges first second
    → AreBlocks (before ++ (pieces first second ++ after)) × IsNormal (concat (before ++ (pieces first second ++ after))) × IsEdited edit from to (concat before ++ (run ++ concat after)) (concat (before ++ (pieces first second ++ after)))
split_after_edit edit from to front back before after run ranges first second sized_before sized_after some whole below above more is_front is_back cut =
    let new : concat (before ++ (pieces first second ++ after)) ≡ concat before ++ (ranges ++ concat after) = concat-middle before (pieces first second) after ∙ ap (λ (l : List (ℕ × ℕ)). concat before ++ (l ++ concat after)) (concat-pieces first second ∙ cut.parts) in
    let tail = IsNormal-suffix run (concat after) (IsNormal-suffix (concat before) (run ++ concat after) whole) in (
      fill_rule_after_replacement 128 before after (pieces first second) sized_before sized_after cut.filled (pieces_some first second) (subst (λ n. 0 < n → 128 < n + first_length (pieces first second)) is_front cut.front) (subst (λ n. 0 < n → 128 < last_length (pieces first second) + n) is_back cut.back),
      subst IsNormal (sym new) (replaced_normal edit from to (concat before) (concat after) run ranges whole some (some_cut 128 front back ranges first second cut) below above more),
      subst (λ (l : List (ℕ × ℕ)). IsEdited edit from to (concat before ++ (run ++ concat after)) l) (sym new) (replaced_edited edit from to (concat before) (concat after) run ranges tail below above more),
    )

nonempty_middle : {X : Type 0} → (xs ys zs : List X) → 0 < length ys → 0 < length (xs ++ (ys ++ zs))
nonempty_middle xs ys zs some = omega (arith, some, length-append xs (ys ++ zs), length-append ys zs)

-- the blocks of a node after one or two adjacent blocks, with the ranges `run`, were edited and split
node_blocks_after_edit : (edit : EditKind) (from to : ℕ) (before after node b1 middle b2 : List (List (ℕ × ℕ))) (run ranges first second : List (ℕ × ℕ)) (front back : ℕ) (blocks : List (List (ℕ × ℕ))) → AreBlocks (before ++ b1) → AreBlocks (b2 ++ after) → 0 < length run → IsNormal (concat (before ++ (node ++ after))) → node ≡ b1 ++ (middle ++ b2) → concat middle ≡ run → EndsBelow from (concat before) → EndsBelow from (concat b1) → to < next_of (concat b2 ++ concat after) → AreEditedRanges edit from to run ranges → front ≡ last_length (before ++ b1) → back ≡ first_length (b2 ++ after) → IsSplit 128 front back ranges first second → blocks ≡ b1 ++ (pieces first second ++ b2) → IsNodeBlocks edit from to before after node blocks
node_blocks_after_edit edit from to before after node b1 middle b2 run ranges first second front back blocks sized_before sized_after some normal parts is_run below1 below2 above more is_front is_back cut made =
    let old : concat (before ++ (node ++ after)) ≡ concat (before ++ b1) ++ (run ++ concat (b2 ++ after)) =
    ap concat (ap (λ (l : List (List (ℕ × ℕ))). before ++ (l ++ after)) parts ∙ append_spread before b1 middle b2 after)
    ∙ concat-middle (before ++ b1) middle (b2 ++ after)
    ∙ ap (λ (l : List (ℕ × ℕ)). concat (before ++ b1) ++ (l ++ concat (b2 ++ after))) is_run in
    let new : before ++ (blocks ++ after) ≡ (before ++ b1) ++ (pieces first second ++ (b2 ++ after)) = ap (λ (l : List (List (ℕ × ℕ))). before ++ (l ++ after)) made ∙ append_spread before b1 (pieces first second) b2 after in
    let flat = split_after_edit edit from to front back (before ++ b1) (b2 ++ after) run ranges first second sized_before sized_after some (subst IsNormal old normal)
    (subst (λ (l : List (ℕ × ℕ)). EndsBelow from l) (sym (concat-append before b1)) (EndsBelow-append from (concat before) (concat b1) below1 below2))
    (subst (λ (l : List (ℕ × ℕ)). to < next_of l) (sym (concat-append b2 after)) above) more is_front is_back cut in
    record {
      some = subst (λ (l : List (List (ℕ × ℕ))). 0 < length l) (sym made) (nonempty_middle b1 (pieces first second) b2 (pieces_some first second));
      sized = subst AreBlocks (sym new) flat.0;
      normal = subst (λ (l : List (List (ℕ × ℕ))). IsNormal (concat l)) (sym new) flat.1;
      is_edited = subst (λ (l : List (List (ℕ × ℕ))). IsEdited edit from to (concat (before ++ (node ++ after))) (concat l)) (sym new)
          (subst (λ (l : List (ℕ × ℕ)). IsEdited edit from to l (concat ((before ++ b1) ++ (pieces first second ++ (b2 ++ after))))) (sym old) flat.2);
    }

-- the blocks of a node after one was edited and split
pub node_blocks_after_regrowth : (edit : EditKind) (from to : ℕ) (before after node b1 b2 : List (List (ℕ × ℕ))) (run ranges first second : List (ℕ × ℕ)) (front back : ℕ) (blocks : List (List (ℕ × ℕ))) → AreBlocks (before ++ (node ++ after)) → IsNormal (concat (before ++ (node ++ after))) → node ≡ b1 ++ run ∷ b2 → EndsBelow from (concat before) → EndsBelow from (concat b1) → to < next_of (concat b2 ++ concat after) → AreEditedRanges edit from to run ranges → front ≡ last_length (before ++ b1) → back ≡ first_length (b2 ++ after) → IsSplit 128 front back ranges first second → blocks ≡ b1 ++ (pieces first second ++ b2) → IsNodeBlocks edit from to before after node blocks
node_blocks_after_regrowth edit from to before after node b1 b2 run ranges first second front back blocks sized normal parts below1 below2 above more is_front is_back cut made =
    let flat = subst AreBlocks (ap (λ (l : List (List (ℕ × ℕ))). before ++ (l ++ after)) parts ∙ append_spread before b1 (run ∷ []) b2 after) sized in
    let around = fill_rule_around 128 (before ++ b1) (b2 ++ after) run flat in
    node_blocks_after_edit edit from to before after node b1 (run ∷ []) b2 run ranges first second front back blocks around.0 around.1
    (fill_rule_nonempty 128 (before ++ b1) (b2 ++ after) run flat) normal parts (append_empty run) below1 below2 above more is_front is_back cut made

-- the blocks of a node after two adjacent ones were edited together and split
pub node_blocks_after_pair : (edit : EditKind) (from to : ℕ) (before after node b1 b2 : List (List (ℕ × ℕ))) (one two ranges first second : List (ℕ × ℕ)) (front back : ℕ) (blocks : List (List (ℕ × ℕ))) → AreBlocks (before ++ (node ++ after)) → IsNormal (concat (before ++ (node ++ after))) → node ≡ b1 ++ one ∷ (two ∷ b2) → EndsBelow from (concat before) → EndsBelow from (concat b1) → to < next_of (concat b2 ++ concat after) → AreEditedRanges edit from to (one ++ two) ranges → front ≡ last_length (before ++ b1) → back ≡ first_length (b2 ++ after) → IsSplit 128 front back ranges first second → blocks ≡ b1 ++ (pieces first second ++ b2) → IsNodeBlocks edit from to before after node blocks
node_blocks_after_pair edit from to before after node b1 b2 one two ranges first second front back blocks sized normal parts below1 below2 above more is_front is_back cut made =
    let flat = subst AreBlocks (ap (λ (l : List (List (ℕ × ℕ))). before ++ (l ++ after)) parts ∙ append_spread before b1 (one ∷ (two ∷ [])) b2 after) sized in
    let some = fill_rule_nonempty 128 (before ++ b1) (two ∷ (b2 ++ after)) one flat in
    let around = fill_rule_around 128 (before ++ b1) (two ∷ (b2 ++ after)) one flat in
    let after_second = fill_rule_suffix 128 (two ∷ []) (b2 ++ after) around.1 in
    node_blocks_after_edit edit from to before after node b1 (one ∷ (two ∷ [])) b2 (one ++ two) ranges first second front back blocks around.0 after_second
    (omega (arith, some, length-append one two)) normal parts (ap (λ (l : List (ℕ × ℕ)). one ++ l) (append_empty two)) below1 below2 above more is_front is_back cut made

-- ---- nodes after an edit of one of them

pub concat_around_node : (nodes before after : List (List (List (ℕ × ℕ)))) (node : List (List (ℕ × ℕ))) → nodes ≡ before ++ node ∷ after → concat nodes ≡ concat before ++ (node ++ concat after)
concat_around_node nodes before after node parts = ap concat parts ∙ concat-append before (node ∷ after)

with_pieces : {X : Type 0} → (first' first second : List X) (o : Option (List X)) → first' ≡ first → MatchOption o (second ≡ []) (λ n. (n ≡ second) × (0 < length second)) → one_or_two first' o ≡ pieces first second
with_pieces {X} first' first second None is none = ap (λ (l : List X). l ∷ []) is ∙ sym (ap (λ (l : List X). pieces first l) none)
with_pieces {X} first' first [] (Some n) is some = absurd (omega (arith, some.1))
with_pieces {X} first' first (y ∷ ys) (Some n) is some = λ i. is i ∷ (some.0 i ∷ [])

pub node_edit_all : (edit : EditKind) (from to : ℕ) (nodes before after : List (List (List (ℕ × ℕ)))) (node blocks first second first' : List (List (ℕ × ℕ))) (o : Option (List (List (ℕ × ℕ)))) (front back : ℕ) → IsStored [] nodes → nodes ≡ before ++ node ∷ after → IsNodeBlocks edit from to (concat before) (concat after) node blocks → front ≡ last_length before → back ≡ first_length after → IsSplit 16 front back blocks first second → first' ≡ first → MatchOption o (second ≡ []) (λ n. (n ≡ second) × (0 < length second)) → IsNodeEdit edit from to nodes (length before) first' o
node_edit_all edit from to nodes before after node blocks first second first' o front back stored parts node_blocks is_front is_back cut is_first is_second =
    let made = with_pieces first' first second o is_first is_second in
    let new : concat (before ++ (one_or_two first' o ++ after)) ≡ concat before ++ (blocks ++ concat after) =
    concat-append before (one_or_two first' o ++ after) ∙ ap (λ (l : List (List (ℕ × ℕ))). concat before ++ l) (concat-append (one_or_two first' o) after ∙ ap (λ (l : List (List (ℕ × ℕ))). l ++ concat after) (ap concat made ∙ concat-pieces first second ∙ cut.parts)) in
    let old = concat_around_node nodes before after node parts in
    let around = fill_rule_around 16 before after node (subst (λ (l : List (List (List (ℕ × ℕ)))). ObeysFillRule 16 l) parts stored.wide) in
    let wide = fill_rule_after_replacement 16 before after (pieces first second) around.0 around.1 cut.filled (pieces_some first second) (subst (λ n. 0 < n → 16 < n + first_length (pieces first second)) is_front cut.front) (subst (λ n. 0 < n → 16 < last_length (pieces first second) + n) is_back cut.back) in
    record {
      before = before;
      node = node;
      after = after;
      parts = parts;
      at = refl;
      stored = record {
        alone = λ some. absurd (omega arith);
        fits = omega arith;
        sized = subst AreBlocks (sym new) node_blocks.sized;
        wide = subst (λ (l : List (List (List (ℕ × ℕ)))). ObeysFillRule 16 (before ++ (l ++ after))) (sym made) wide;
        normal = subst (λ (l : List (List (ℕ × ℕ))). IsNormal (concat l)) (sym new) node_blocks.normal;
      };
      is_edited = subst (λ (l : List (List (ℕ × ℕ))). IsEdited edit from to (concat (concat nodes)) (concat l)) (sym new)
          (subst (λ (l : List (List (ℕ × ℕ))). IsEdited edit from to (concat l) (concat (concat before ++ (blocks ++ concat after)))) (sym old) node_blocks.is_edited);
    }

node_replaced : (edit : EditKind) (from to : ℕ) (nodes before after : List (List (List (ℕ × ℕ)))) (node blocks : List (List (ℕ × ℕ))) (e : Edit) → IsStored [] nodes → nodes ≡ before ++ node ∷ after → IsNodeBlocks edit from to (concat before) (concat after) node blocks → ReplacesNode before after blocks e → IsEdit edit from to nodes e
node_replaced edit from to nodes before after node blocks (Block e) stored parts node_blocks replaced = absurd replaced
node_replaced edit from to nodes before after node blocks (Node e) stored parts node_blocks replaced =
    subst (λ n. IsNodeEdit edit from to nodes n e.first e.second) (sym replaced.at)
    (node_edit_all edit from to nodes before after node blocks e.first replaced.rest e.first e.second _ _ stored parts node_blocks refl refl replaced.split refl replaced.last)

-- a node that is replaced by nodes with its new blocks is edited
pub node_replacement_edits : (edit : EditKind) (from to : ℕ) (nodes before after : List (List (List (ℕ × ℕ)))) (node blocks : List (List (ℕ × ℕ))) (o : Option Edit) → IsStored [] nodes → nodes ≡ before ++ node ∷ after → IsNodeBlocks edit from to (concat before) (concat after) node blocks → IfSome o (ReplacesNode before after blocks) → IfSome o (IsEdit edit from to nodes)
node_replacement_edits edit from to nodes before after node blocks None stored parts node_blocks replaced = tt
node_replacement_edits edit from to nodes before after node blocks (Some e) stored parts node_blocks replaced = node_replaced edit from to nodes before after node blocks e stored parts node_blocks replaced

pub node_blocks_normal : (edit : EditKind) (from to : ℕ) (before after node blocks : List (List (ℕ × ℕ))) → IsNodeBlocks edit from to before after node blocks → IsNormal (concat blocks)
node_blocks_normal edit from to before after node blocks b = node_normal before blocks blocks after refl b.normal

pub node_blocks_sized : (edit : EditKind) (from to : ℕ) (before after node blocks : List (List (ℕ × ℕ))) → IsNodeBlocks edit from to before after node blocks → AreBlocks blocks
node_blocks_sized edit from to before after node blocks b = fill_rule_prefix 128 blocks after (fill_rule_suffix 128 before (blocks ++ after) b.sized)

-- ---- one element replaced

pub set_split : {X : Type 0} (xs : List X) (i : ℕ) (x : X) → i < length xs → slice_set xs i x ≡ take i xs ++ x ∷ drop (i + 1) xs
set_split {X} [] i x lt = absurd (omega arith)
set_split {X} (y ∷ ys) zero x lt = refl
set_split {X} (y ∷ ys) (suc i) x lt =
    let e : suc (i + 1) ≡ suc i + 1 = omega arith in
    ap (λ (l : List X). y ∷ l) (set_split ys i x (omega arith)) ∙ ap (λ n. y ∷ (take i ys ++ x ∷ drop n (y ∷ ys))) e

inserted_set : {X : Type 0} (xs : List X) (i n : ℕ) (x y : X) → i < length xs → n ≡ i + 1 → slice_set (insert xs n y) i x ≡ take i xs ++ x ∷ (y ∷ drop n xs)
inserted_set {X} [] i n x y lt e = absurd (omega arith)
inserted_set {X} (z ∷ zs) i zero x y lt e = absurd (omega arith)
inserted_set {X} (z ∷ zs) zero (suc n) x y lt e =
    let none : n ≡ 0 = omega arith in
    ap (λ k. x ∷ (take k zs ++ y ∷ drop n zs)) none
inserted_set {X} (z ∷ zs) (suc i) (suc n) x y lt e = ap (λ (l : List X). z ∷ l) (inserted_set zs i n x y (omega arith) (omega arith))

pub set_inserted : {X : Type 0} (xs ys : List X) (i : ℕ) (x y : X) → i < length xs → ys ≡ insert xs (i + 1) y → slice_set ys i x ≡ take i xs ++ x ∷ (y ∷ drop (i + 1) xs)
set_inserted {X} xs ys i x y lt is = ap (λ (l : List X). slice_set l i x) is ∙ inserted_set xs i (i + 1) x y lt refl

-- ---- nodes at their positions

take_first : {X : Type 0} (xs ys : List X) → take (length xs) (xs ++ ys) ≡ xs
take_first {X} [] ys = refl
take_first {X} (x ∷ xs) ys = ap (λ (l : List X). x ∷ l) (take_first xs ys)

drop_first : {X : Type 0} (xs ys : List X) (y : X) (n : ℕ) → n ≡ length xs + 1 → drop n (xs ++ y ∷ ys) ≡ ys
drop_first {X} [] ys y zero e = absurd (omega arith)
drop_first {X} [] ys y (suc n) e = let none : n ≡ 0 = omega arith in ap (λ k. drop k ys) none
drop_first {X} (x ∷ xs) ys y zero e = absurd (omega arith)
drop_first {X} (x ∷ xs) ys y (suc n) e = drop_first xs ys y n (omega arith)

replaced_in_place : {X : Type 0} (nodes before after middle : List X) (node : X) (place : ℕ) → nodes ≡ before ++ node ∷ after → place ≡ length before → take place nodes ++ (middle ++ drop (place + 1) nodes) ≡ before ++ (middle ++ after)
replaced_in_place {X} nodes before after middle node place parts at =
    let first : take place nodes ≡ before = (λ i. take (at i) (parts i)) ∙ take_first before (node ∷ after) in
    let last : drop (place + 1) nodes ≡ after = ap (λ (l : List X). drop (place + 1) l) parts ∙ drop_first before after node (place + 1) (omega arith) in
    λ i. first i ++ (middle ++ last i)

pub node_edit_stored : (edit : EditKind) (from to place : ℕ) (nodes nodes' new : List (List (List (ℕ × ℕ)))) (first : List (List (ℕ × ℕ))) (second : Option (List (List (ℕ × ℕ)))) → nodes' ≡ nodes → IsNodeEdit edit from to nodes' place first second → new ≡ take place nodes ++ (one_or_two first second ++ drop (place + 1) nodes) → IsStored [] new
node_edit_stored edit from to place nodes nodes' new first second is r made =
    subst (λ (l : List (List (List (ℕ × ℕ)))). IsStored [] l) (sym (made ∙ replaced_in_place nodes r.before r.after (one_or_two first second) r.node place (sym is ∙ r.parts) r.at)) r.stored

pub node_edit_edits : (edit : EditKind) (from to place : ℕ) (nodes nodes' new : List (List (List (ℕ × ℕ)))) (first : List (List (ℕ × ℕ))) (second : Option (List (List (ℕ × ℕ)))) → nodes' ≡ nodes → IsNodeEdit edit from to nodes' place first second → new ≡ take place nodes ++ (one_or_two first second ++ drop (place + 1) nodes) → IsEdited edit from to (concat (concat nodes)) (concat (concat new))
node_edit_edits edit from to place nodes nodes' new first second is r made =
    subst (λ (l : List (List (List (ℕ × ℕ)))). IsEdited edit from to (concat (concat nodes)) (concat (concat l))) (sym (made ∙ replaced_in_place nodes r.before r.after (one_or_two first second) r.node place (sym is ∙ r.parts) r.at))
    (subst (λ (l : List (List (List (ℕ × ℕ)))). IsEdited edit from to (concat (concat l)) (concat (concat (r.before ++ (one_or_two first second ++ r.after))))) is r.is_edited)
