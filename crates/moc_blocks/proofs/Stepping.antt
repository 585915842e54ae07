-- Binary search for a number in a list of ranges or blocks.
use Rattle.std.proofs.Common.{◌≡◌, ℕ, zero, suc, ◌+◌, ◌-◌, ◌*◌, ◌/◌, ◌^◌, ◌<◌, ◌≤◌, true, false, ◌||◌, List, []}
use Rattle.std.proofs.Common.{◌∷◌, ◌++◌, length, take, drop, get_or, refl, sym, ap, subst, ◌∙◌, arith, length-append}
use Rattle.std.proofs.lemmas.Bool.Decides.{nat_tests}
use Rattle.std.proofs.lemmas.List.{take_more, drop_more, take-append-drop, take_all}
use Rattle.std.proofs.lemmas.List.Sums.{sum_by-cons}
use Rattle.moc_blocks.specs.RangeList.{NumberSet, pixel_count, IsNormal, set_of}
use Rattle.moc_blocks.specs.Blocks.{IsSearchOf, concat, AreBlocks}
use Rattle.moc_blocks.specs.Lemmas.Members.{in_ranges, in_ranges-append, or_false}
use Rattle.moc_blocks.specs.Private.Blocks.{first_of, last_of, width_of, rest_of, AreStored, IsStored}
use Rattle.moc_blocks.specs.Private.Walks.{EndsBy}
use Rattle.moc_blocks.specs.Lemmas.Ranges.{later_only}
use Rattle.moc_blocks.proofs.Blocking.{append_empty, IsNormal-prefix, IsNormal-suffix, concat-append, concat-last}
use Rattle.moc_blocks.proofs.Blocking.{first_of-append, last_of-append, width_bounded, width-append}
use Rattle.moc_blocks.proofs.Passing.{ends_by_last}
use Rattle.moc_blocks.proofs.Basics.{none_after_limit}

-- no number before the first range or from the end of the last range on is a member
none_before : (rs : List (ℕ × ℕ)) (q : ℕ) → IsNormal rs → q < first_of rs → in_ranges rs q ≡ false
none_before [] q normal lt = refl
none_before (r ∷ rs) q normal lt = let later = later_only r.1 q rs normal.3 normal.2 (omega (arith, normal.0)) in grind (arith, nat_tests)

none_after : (rs : List (ℕ × ℕ)) (q : ℕ) → IsNormal rs → last_of rs ≤ q → in_ranges rs q ≡ false
none_after rs q normal le = none_after_limit (last_of rs) q rs (ends_by_last (last_of rs) rs normal (omega arith)) le

-- a block between other blocks
pub left_none : (a b c : List (ℕ × ℕ)) (q : ℕ) → IsNormal (a ++ (b ++ c)) → 0 < length b → q < first_of b → in_ranges (b ++ c) q ≡ false
left_none a b c q normal some lt = none_before (b ++ c) q (IsNormal-suffix a (b ++ c) normal) (omega (arith, first_of-append b c some))

pub right_none : (a b : List (ℕ × ℕ)) (q : ℕ) → IsNormal (a ++ b) → 0 < length b → last_of b ≤ q → in_ranges (a ++ b) q ≡ false
right_none a b q normal some le = none_after (a ++ b) q normal (omega (arith, last_of-append a b some))

ends_before : (a b : List (ℕ × ℕ)) → IsNormal (a ++ b) → 0 < length b → EndsBy (first_of b) a
ends_before [] b normal some = tt
ends_before (r ∷ []) [] normal some = absurd (omega arith)
ends_before (r ∷ []) (s ∷ b) normal some = (omega (arith, normal.2), tt)
ends_before (r ∷ (s ∷ a)) b normal some =
    let rest = ends_before (s ∷ a) b normal.3 some in
    (omega (arith, normal.2, normal.3.0, rest.0), rest)

begins_after : (b c : List (ℕ × ℕ)) (q : ℕ) → IsNormal (b ++ c) → 0 < length b → q < last_of b → in_ranges c q ≡ false
begins_after [] c q normal some lt = absurd (omega arith)
begins_after (r ∷ []) c q normal some lt = later_only r.1 q c normal.3 normal.2 (omega arith)
begins_after (r ∷ (s ∷ b)) c q normal some lt = begins_after (s ∷ b) c q normal.3 (omega arith) lt

more_some : (b c : List (ℕ × ℕ)) → 0 < length b → 0 < length (b ++ c)
more_some [] c some = absurd (omega arith)
more_some (r ∷ b) c some = omega arith

pub only_middle_contains : (a b c : List (ℕ × ℕ)) (q : ℕ) → IsNormal (a ++ (b ++ c)) → 0 < length b → first_of b ≤ q → q < last_of b → in_ranges (a ++ (b ++ c)) q ≡ in_ranges b q
only_middle_contains a b c q normal some from to =
    let a_none = none_after_limit (first_of (b ++ c)) q a (ends_before a (b ++ c) normal (more_some b c some)) (omega (arith, first_of-append b c some)) in
    let c_none = begins_after b c q (IsNormal-suffix a (b ++ c) normal) some to in
    in_ranges-append a (b ++ c) q ∙ (λ i. a_none i || in_ranges-append b c q i) ∙ ap (λ x. in_ranges b q || x) c_none ∙ or_false (in_ranges b q)

-- a search that is narrowed to the positions from low to high
pub record IsNarrowed (before after : List (ℕ × ℕ)) (q low high len start steps : ℕ) : Type 0 where
  pub ordered : low ≤ high
  pub within : high ≤ len
  pub none_before : in_ranges before q ≡ false
  pub none_after : in_ranges after q ≡ false
  pub risen : start ≤ steps
  pub spent : (d : ℕ) → len < 2 ^ d → (e : ℕ) × ((high - low < 2 ^ e) × (steps + e ≤ start + d))

power_of_two_next : (e : ℕ) → 2 ^ suc e ≡ 2 * 2 ^ e
power_of_two_next e = omega arith

half_lt : (w w' p : ℕ) → w < 2 * p → w' ≤ w / 2 → w' < p
half_lt w w' p lt le = omega arith

exponent_of_half : (w w' e : ℕ) → w < 2 ^ e → 0 < w → w' ≤ w / 2 → (f : ℕ) × ((w' < 2 ^ f) × (f + 1 ≡ e))
exponent_of_half w w' zero lt some le = absurd (omega arith)
exponent_of_half w w' (suc e) lt some le = (e, (half_lt w w' (2 ^ e) (omega (arith, power_of_two_next e, lt)) le, omega arith))

-- one step of the search
pub steps_after_halving : (len start steps w w' : ℕ) → ((d : ℕ) → len < 2 ^ d → (e : ℕ) × ((w < 2 ^ e) × (steps + e ≤ start + d))) → 0 < w → w' ≤ w / 2 → (d : ℕ) → len < 2 ^ d → (e : ℕ) × ((w' < 2 ^ e) × (steps + 1 + e ≤ start + d))
steps_after_halving len start steps w w' spent some le d lt =
    let s = spent d lt in
    let h = exponent_of_half w w' s.0 s.1.0 some le in
    (h.0, (h.1.0, omega (arith, s.1.1, h.1.1)))

-- the maximum cost of one more step
pub steps_bounded_next : (len start steps w : ℕ) → ((d : ℕ) → len < 2 ^ d → (e : ℕ) × ((w < 2 ^ e) × (steps + e ≤ start + d))) → 0 < w → (d : ℕ) → len < 2 ^ d → steps + 1 ≤ start + d
steps_bounded_next len start steps w spent some d lt = let s = steps_after_halving len start steps w 0 spent some (omega arith) d lt in omega (arith, s.1.1)

pub in_neither_side : (whole before after : List (ℕ × ℕ)) (q : ℕ) → whole ≡ before ++ after → in_ranges before q ≡ false → in_ranges after q ≡ false → in_ranges whole q ≡ false
in_neither_side whole before after q e b a = ap (λ (l : List (ℕ × ℕ)). in_ranges l q) e ∙ in_ranges-append before after q ∙ (λ i. b i || a i)

-- ranges
pub split_at : (rs : List (ℕ × ℕ)) (i : ℕ) (d : ℕ × ℕ) → i < length rs → rs ≡ take i rs ++ (get_or rs i d ∷ [] ++ drop (i + 1) rs)
split_at rs i d lt = sym (take-append-drop i rs) ∙ ap (λ (l : List (ℕ × ℕ)). take i rs ++ l) (drop_more rs i d lt)

pub range_left : (rs : List (ℕ × ℕ)) (i q : ℕ) (d : ℕ × ℕ) → IsNormal rs → i < length rs → q < (get_or rs i d).0 → in_ranges (drop i rs) q ≡ false
range_left rs i q d normal lt less =
    ap (λ (l : List (ℕ × ℕ)). in_ranges l q) (drop_more rs i d lt)
    ∙ left_none (take i rs) (get_or rs i d ∷ []) (drop (i + 1) rs) q (subst IsNormal (split_at rs i d lt) normal) (omega arith) less

pub range_right : (rs : List (ℕ × ℕ)) (i q : ℕ) (d : ℕ × ℕ) → IsNormal rs → i < length rs → (get_or rs i d).1 ≤ q → in_ranges (take (i + 1) rs) q ≡ false
range_right rs i q d normal lt le =
    let n : IsNormal (take (i + 1) rs) = IsNormal-prefix (take (i + 1) rs) (drop (i + 1) rs) (subst IsNormal (sym (take-append-drop (i + 1) rs)) normal) in
    let e = take_more rs i d lt in
    ap (λ (l : List (ℕ × ℕ)). in_ranges l q) e ∙ right_none (take i rs) (get_or rs i d ∷ []) q (subst IsNormal e n) (omega arith) le

here : (r : ℕ × ℕ) (q : ℕ) → r.0 ≤ q → q < r.1 → in_ranges (r ∷ []) q ≡ true
here r q from to = grind (arith, nat_tests)

pub range_at_index_contains : (rs : List (ℕ × ℕ)) (i q : ℕ) (d : ℕ × ℕ) → IsNormal rs → i < length rs → (get_or rs i d).0 ≤ q → q < (get_or rs i d).1 → in_ranges rs q ≡ true
range_at_index_contains rs i q d normal lt from to =
    let e = split_at rs i d lt in
    ap (λ (l : List (ℕ × ℕ)). in_ranges l q) e ∙ only_middle_contains (take i rs) (get_or rs i d ∷ []) (drop (i + 1) rs) q (subst IsNormal e normal) (omega arith) from to ∙ here (get_or rs i d) q from to

-- blocks
block_size : (bs : List (List (ℕ × ℕ))) (i : ℕ) (b : List (ℕ × ℕ)) → AreBlocks bs → i < length bs → b ≡ get_or bs i b → (0 < length b) × (length b ≤ 128)
block_size [] i b ok lt is = absurd (omega arith)
block_size (a ∷ bs) zero b ok lt is = (omega (arith, ok.0, ap length is), omega (arith, ok.1, ap length is))
block_size (a ∷ bs) (suc i) b ok lt is = block_size bs i b ok.3 (omega arith) is

joining_at : (bs : List (List (ℕ × ℕ))) (i : ℕ) (b : List (ℕ × ℕ)) → i < length bs → b ≡ get_or bs i b → concat bs ≡ concat (take i bs) ++ (b ++ concat (drop (i + 1) bs))
joining_at bs i b lt is = ap concat (sym (take-append-drop i bs)) ∙ concat-append (take i bs) (drop i bs) ∙ ap (λ (l : List (List (ℕ × ℕ))). concat (take i bs) ++ concat l) (drop_more bs i b lt) ∙ ap (λ (l : List (ℕ × ℕ)). concat (take i bs) ++ (l ++ concat (drop (i + 1) bs))) (sym is)

pub block_left : (bs : List (List (ℕ × ℕ))) (i q : ℕ) (b : List (ℕ × ℕ)) → AreStored bs → i < length bs → b ≡ get_or bs i b → q < first_of b → in_ranges (concat (drop i bs)) q ≡ false
block_left bs i q b ok lt is less =
    let same : concat (drop i bs) ≡ b ++ concat (drop (i + 1) bs) = ap concat (drop_more bs i b lt) ∙ ap (λ (l : List (ℕ × ℕ)). l ++ concat (drop (i + 1) bs)) (sym is) in
    ap (λ (l : List (ℕ × ℕ)). in_ranges l q) same ∙ left_none (concat (take i bs)) b (concat (drop (i + 1) bs)) q (subst IsNormal (joining_at bs i b lt is) ok.normal) (block_size bs i b ok.sized lt is).0 less

pub block_right : (bs : List (List (ℕ × ℕ))) (i q : ℕ) (b : List (ℕ × ℕ)) → AreStored bs → i < length bs → b ≡ get_or bs i b → last_of b ≤ q → in_ranges (concat (take (i + 1) bs)) q ≡ false
block_right bs i q b ok lt is le =
    let same : concat (take (i + 1) bs) ≡ concat (take i bs) ++ b = ap concat (take_more bs i b lt) ∙ concat-last (take i bs) (get_or bs i b) ∙ ap (λ (l : List (ℕ × ℕ)). concat (take i bs) ++ l) (sym is) in
    let n : IsNormal (concat (take (i + 1) bs)) = IsNormal-prefix (concat (take (i + 1) bs)) (concat (drop (i + 1) bs)) (subst IsNormal (ap concat (sym (take-append-drop (i + 1) bs)) ∙ concat-append (take (i + 1) bs) (drop (i + 1) bs)) ok.normal) in
    ap (λ (l : List (ℕ × ℕ)). in_ranges l q) same ∙ right_none (concat (take i bs)) b q (subst IsNormal same n) (block_size bs i b ok.sized lt is).0 le

pub only_block_contains : (bs : List (List (ℕ × ℕ))) (i q : ℕ) (b : List (ℕ × ℕ)) → AreStored bs → i < length bs → b ≡ get_or bs i b → first_of b ≤ q → q < last_of b → in_ranges (concat bs) q ≡ in_ranges b q
only_block_contains bs i q b ok lt is from to =
    let e = joining_at bs i b lt is in
    ap (λ (l : List (ℕ × ℕ)). in_ranges l q) e ∙ only_middle_contains (concat (take i bs)) b (concat (drop (i + 1) bs)) q (subst IsNormal e ok.normal) (block_size bs i b ok.sized lt is).0 from to

pub block_ok : (bs : List (List (ℕ × ℕ))) (i : ℕ) (b : List (ℕ × ℕ)) → AreStored bs → i < length bs → b ≡ get_or bs i b → IsNormal b × (length b ≤ 128)
block_ok bs i b ok lt is =
    let n = subst IsNormal (joining_at bs i b lt is) ok.normal in
    (IsNormal-prefix b (concat (drop (i + 1) bs)) (IsNormal-suffix (concat (take i bs)) _ n), (block_size bs i b ok.sized lt is).1)

pub narrow_left : (before after after' : List (ℕ × ℕ)) (q low high len start steps steps' : ℕ) → IsNarrowed before after q low high len start steps → low < high → in_ranges after' q ≡ false → steps' ≡ steps + 1 → IsNarrowed before after' q low (low + (high - low) / 2) len start steps'
narrow_left before after after' q low high len start steps steps' n lt none e =
    let more = steps_after_halving len start steps (high - low) ((low + (high - low) / 2) - low) n.spent (omega arith) (omega arith) in
    let le = n.within in
    record {
      ordered = omega arith;
      within = omega arith;
      none_before = n.none_before;
      none_after = none;
      risen = omega (arith, n.risen, e);
      spent = λ d lt. let m = more d lt in (m.0, (m.1.0, omega (arith, m.1.1)));
    }

pub narrow_right : (before before' after : List (ℕ × ℕ)) (q low high len start steps steps' : ℕ) → IsNarrowed before after q low high len start steps → low < high → in_ranges before' q ≡ false → steps' ≡ steps + 1 → IsNarrowed before' after q (low + (high - low) / 2 + 1) high len start steps'
narrow_right before before' after q low high len start steps steps' n lt none e =
    let more = steps_after_halving len start steps (high - low) (high - (low + (high - low) / 2 + 1)) n.spent (omega arith) (omega arith) in
    let le = n.within in
    record {
      ordered = omega arith;
      within = omega arith;
      none_before = none;
      none_after = n.none_after;
      risen = omega (arith, n.risen, e);
      spent = λ d lt. let m = more d lt in (m.0, (m.1.0, omega (arith, m.1.1)));
    }

-- the number of counted steps, for a list that fits in memory
pub steps_bounded : (before after : List (ℕ × ℕ)) (q low high len start steps : ℕ) → IsNarrowed before after q low high len start steps → len < 18446744073709551616 → steps ≤ start + 64
steps_bounded before after q low high len start steps n lt = let s = n.spent 64 (omega arith) in omega (arith, s.1.1)

pub steps_after_comparison : (before after : List (ℕ × ℕ)) (q low high len start steps : ℕ) → IsNarrowed before after q low high len start steps → low < high → (d : ℕ) → len < 2 ^ d → steps + 1 ≤ start + d
steps_after_comparison before after q low high len start steps n lt d small = steps_bounded_next len start steps (high - low) n.spent (omega arith) d small

pub no_range_contains : (rs : List (ℕ × ℕ)) (q low high len start steps : ℕ) → IsNarrowed (take low rs) (drop high rs) q low high len start steps → high ≤ low → in_ranges rs q ≡ false
no_range_contains rs q low high len start steps n le =
    let same : low ≡ high = omega (arith, n.ordered) in
    in_neither_side rs (take low rs) (drop low rs) q (sym (take-append-drop low rs)) n.none_before (ap (λ i. in_ranges (drop i rs) q) same ∙ n.none_after)

pub no_block_contains : (bs : List (List (ℕ × ℕ))) (q low high len start steps : ℕ) → IsNarrowed (concat (take low bs)) (concat (drop high bs)) q low high len start steps → high ≤ low → in_ranges (concat bs) q ≡ false
no_block_contains bs q low high len start steps n le =
    let same : low ≡ high = omega (arith, n.ordered) in
    in_neither_side (concat bs) (concat (take low bs)) (concat (drop low bs)) q (ap concat (sym (take-append-drop low bs)) ∙ concat-append (take low bs) (drop low bs)) n.none_before (ap (λ i. in_ranges (concat (drop i bs)) q) same ∙ n.none_after)

some_width : (rs : List (ℕ × ℕ)) → IsNormal rs → 0 < length rs → 0 < width_of rs
some_width [] normal some = absurd (omega arith)
some_width (r ∷ rs) normal some = omega (arith, sum_by-cons (λ (range : ℕ × ℕ). range.1 - range.0) r rs, normal.0)

blocks_at_most_width : (bs : List (List (ℕ × ℕ))) → AreBlocks bs → IsNormal (concat bs) → length bs ≤ width_of (concat bs)
blocks_at_most_width [] ok normal = omega arith
blocks_at_most_width (b ∷ bs) ok normal =
    let rest = blocks_at_most_width bs ok.3 (IsNormal-suffix b (concat bs) normal) in
    let here = some_width b (IsNormal-prefix b (concat bs) normal) ok.0 in
    omega (arith, width-append b (concat bs))

pub block_count_bounded : (bs : List (List (ℕ × ℕ))) → AreStored bs → length bs ≤ pixel_count
block_count_bounded bs ok = let few = blocks_at_most_width bs ok.sized ok.normal in let all = width_bounded (concat bs) ok.normal in omega arith

-- ---- the blocks of nodes

get_in_second : {X : Type 0} (xs ys : List X) (i : ℕ) (d : X) → get_or (xs ++ ys) (length xs + i) d ≡ get_or ys i d
get_in_second {X} [] ys i d = ap (λ k. get_or ys k d) (omega arith)
get_in_second {X} (x ∷ xs) ys i d = let e : suc (length xs) + i ≡ suc (length xs + i) = omega arith in ap (λ k. get_or (x ∷ (xs ++ ys)) k d) e ∙ get_in_second xs ys i d

get_first : {X : Type 0} (xs ys : List X) (i : ℕ) (d : X) → i < length xs → get_or (xs ++ ys) i d ≡ get_or xs i d
get_first {X} [] ys i d lt = absurd (omega arith)
get_first {X} (x ∷ xs) ys zero d lt = refl
get_first {X} (x ∷ xs) ys (suc i) d lt = get_first xs ys i d (omega arith)

nodes_at : (ns : List (List (List (ℕ × ℕ)))) (i : ℕ) (n : List (List (ℕ × ℕ))) → i < length ns → n ≡ get_or ns i n → concat ns ≡ concat (take i ns) ++ (n ++ concat (drop (i + 1) ns))
nodes_at ns i n lt is =
    ap concat (sym (take-append-drop i ns)) ∙ concat-append (take i ns) (drop i ns)
    ∙ ap (λ (l : List (List (List (ℕ × ℕ)))). concat (take i ns) ++ concat l) (drop_more ns i n lt)
    ∙ ap (λ (l : List (List (ℕ × ℕ))). concat (take i ns) ++ (l ++ concat (drop (i + 1) ns))) (sym is)

pub concat_lengths_next : (ns : List (List (List (ℕ × ℕ)))) (i : ℕ) (n : List (List (ℕ × ℕ))) → i < length ns → n ≡ get_or ns i n → (length (concat (take (i + 1) ns)) ≡ length (concat (take i ns)) + length n) × (length (concat (take i ns)) + length n ≤ length (concat ns))
concat_lengths_next ns i n lt is =
    let more : concat (take (i + 1) ns) ≡ concat (take i ns) ++ n = ap concat (take_more ns i n lt) ∙ concat-last (take i ns) (get_or ns i n) ∙ ap (λ (l : List (List (ℕ × ℕ))). concat (take i ns) ++ l) (sym is) in
    let all = ap length (nodes_at ns i n lt is) in
    (ap length more ∙ length-append (concat (take i ns)) n, omega (arith, all, length-append (concat (take i ns)) (n ++ concat (drop (i + 1) ns)), length-append n (concat (drop (i + 1) ns))))

pub block_at_place : (ns : List (List (List (ℕ × ℕ)))) (i left place : ℕ) (n : List (List (ℕ × ℕ))) (b : List (ℕ × ℕ)) → i < length ns → n ≡ get_or ns i n → place ≡ length (concat (take i ns)) + left → left < length n → b ≡ get_or n left b → (place < length (concat ns)) × (b ≡ get_or (concat ns) place b)
block_at_place ns i left place n b lt is at inside same =
    let capacity = concat_lengths_next ns i n lt is in (
      omega (arith, capacity.1),
      same ∙ sym (ap (λ (l : List (List (ℕ × ℕ))). get_or l place b) (nodes_at ns i n lt is)
          ∙ ap (λ k. get_or (concat (take i ns) ++ (n ++ concat (drop (i + 1) ns))) k b) at
          ∙ get_in_second (concat (take i ns)) (n ++ concat (drop (i + 1) ns)) left b
          ∙ get_first n (concat (drop (i + 1) ns)) left b inside),
    )

pub concat_length_complete : (ns : List (List (List (ℕ × ℕ)))) (i : ℕ) → length ns ≤ i → length (concat (take i ns)) ≡ length (concat ns)
concat_length_complete ns i le = ap (λ (l : List (List (List (ℕ × ℕ)))). length (concat l)) (take_all i ns le)

-- ---- sets

rest_of_ranges_only : (few : List (ℕ × ℕ)) (nodes : List (List (List (ℕ × ℕ)))) → IsStored few nodes → 0 < length few → rest_of few [] nodes ≡ few
rest_of_ranges_only few nodes s some = ap (λ (l : List (List (List (ℕ × ℕ)))). rest_of few [] l) (s.alone some) ∙ append_empty few

pub search_cost_of_ranges : (few : List (ℕ × ℕ)) (nodes : List (List (List (ℕ × ℕ)))) (a : NumberSet) (old new : ℕ) → set_of (rest_of few [] nodes) ≡ a → IsStored few nodes → 0 < length few → old ≤ new → ((d : ℕ) → length few < 2 ^ d → new ≤ old + d) → IsSearchOf a old new
search_cost_of_ranges few nodes a old new is s some increases cost =
    let alone = rest_of_ranges_only few nodes s some in
    let fits = s.fits in
    let small : length few < 2 ^ 8 = omega arith in
    let most = cost 8 small in
    record {
      blocks = few ∷ [];
      sized = (some, s.fits, tt, tt);
      ranges = (subst IsNormal (alone ∙ sym (append_empty few)) s.normal, ap set_of (append_empty few ∙ sym alone) ∙ is);
      increases = increases;
      cost = λ digits lt. omega (arith, most);
    }
