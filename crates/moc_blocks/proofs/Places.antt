-- The positions of nodes among all blocks.
use Rattle.std.proofs.Common.{◌≡◌, ℕ, zero, suc, ◌+◌, ◌-◌, ◌<◌, ◌≤◌, Bool, true, false, List, [], ◌∷◌, ◌++◌, length}
use Rattle.std.proofs.Common.{take, drop, get_or, leb, leb-true, leb-false, refl, sym, ap, subst, ◌∙◌, arith}
use Rattle.std.proofs.Common.{length-append, length-drop, length-take-le}
use Rattle.std.specs.Prelude.{slice_set, cond}
use Rattle.std.specs.List.{insert}
use Rattle.std.proofs.lemmas.List.{take_more, take_rest, take_all, take_at, drop_at, get_or-drop}
use Rattle.std.proofs.lemmas.Slice.{take-put_mid}
use borrow.Rule.Slice.PartMut.{put_mid}
use Rattle.std.proofs.lemmas.List.Sorted.{IsPartitionedBy-leb}
use Rattle.std.specs.List.Sorted.{IsNonDecreasingBy, IsPartitionPoint, IsPartitionedBy}
use Rattle.moc_blocks.specs.RangeList.{pixel_count}
use Rattle.moc_blocks.specs.Blocks.{concat}
use Rattle.moc_blocks.specs.Private.Blocks.{starts_from, shift_starts, AreStored, IsCountStarted, IsStored}
use Rattle.moc_blocks.proofs.Stepping.{concat_lengths_next, concat_length_complete, block_count_bounded}

-- there are as many starts as lists
pub starts_length : {X : Type 0} (n : ℕ) (xs : List (List X)) → length (starts_from n xs) ≡ length xs
starts_length n [] = refl
starts_length n (x ∷ xs) = ap suc (starts_length (n + length x) xs)

-- each list begins after those before it
pub starts_at : {X : Type 0} (n : ℕ) (xs : List (List X)) (i d : ℕ) → i < length xs → get_or (starts_from n xs) i d ≡ n + length (concat (take i xs))
starts_at n [] i d lt = absurd (omega arith)
starts_at n (x ∷ xs) zero d lt = omega arith
starts_at n (x ∷ xs) (suc i) d lt = starts_at (n + length x) xs i d (omega arith) ∙ omega (arith, length-append x (concat (take i xs)))

pub starts_append : {X : Type 0} (n : ℕ) (xs ys : List (List X)) → starts_from n (xs ++ ys) ≡ starts_from n xs ++ starts_from (n + length (concat xs)) ys
starts_append n [] ys = ap (λ k. starts_from k ys) (omega arith)
starts_append n (x ∷ xs) ys =
    ap (λ l. n ∷ l) (starts_append (n + length x) xs ys ∙ ap (λ k. starts_from (n + length x) xs ++ starts_from k ys) (omega (arith, length-append x (concat xs))))

-- the starts of one list more
pub starts_more : {X : Type 0} (xs : List (List X)) (i count : ℕ) (x : List X) → i < length xs → x ≡ get_or xs i x → count ≡ length (concat (take i xs)) → starts_from 0 (take i xs) ++ count ∷ [] ≡ starts_from 0 (take (i + 1) xs)
starts_more {X} xs i count x lt is at =
    let zero : length (concat (take i xs)) ≡ 0 + length (concat (take i xs)) = omega arith in
    ap (λ k. starts_from 0 (take i xs) ++ k ∷ []) (at ∙ zero)
    ∙ sym (ap (λ (l : List (List X)). starts_from 0 l) (take_more xs i x lt) ∙ starts_append 0 (take i xs) (get_or xs i x ∷ []))

-- a list that is put in its place begins there too
pub starts_set : {X : Type 0} (n : ℕ) (xs : List (List X)) (i : ℕ) (x y : List X) → x ≡ get_or xs i x → length y ≡ length x → starts_from n (slice_set xs i y) ≡ starts_from n xs
starts_set n [] i x y is e = refl
starts_set n (z ∷ xs) zero x y is e = ap (λ k. n ∷ starts_from (n + k) xs) (e ∙ ap length is)
starts_set n (z ∷ xs) (suc i) x y is e = ap (λ l. n ∷ l) (starts_set (n + length z) xs i x y is e)

-- ---- the node of a block

lengths_ascend : (ns : List (List (List (ℕ × ℕ)))) (i j : ℕ) → i ≤ j → length (concat (take i ns)) ≤ length (concat (take j ns))
lengths_ascend [] zero j le = omega arith
lengths_ascend [] (suc i) j le = omega arith
lengths_ascend (n ∷ ns) zero j le = omega arith
lengths_ascend (n ∷ ns) (suc i) zero le = absurd (omega arith)
lengths_ascend (n ∷ ns) (suc i) (suc j) le = omega (arith, lengths_ascend ns i j (omega arith), length-append n (concat (take i ns)), length-append n (concat (take j ns)))

pub starts_ascend : (ns : List (List (List (ℕ × ℕ)))) → IsNonDecreasingBy (λ (x : ℕ). x) (starts_from 0 ns)
starts_ascend ns = λ i j d le lt.
    let many = starts_length 0 ns in
    let inside : j < length ns = omega arith in
    let low : i < length ns = omega arith in
    omega (arith, starts_at 0 ns i d low, starts_at 0 ns j d inside, lengths_ascend ns i j le)

pub starts_partitioned : (ns : List (List (List (ℕ × ℕ)))) (starts : List ℕ) (place : ℕ) → starts ≡ starts_from 0 ns → IsPartitionedBy (λ x. leb x place) starts
starts_partitioned ns starts place is = IsPartitionedBy-leb (λ (x : ℕ). x) starts place (subst (λ (l : List ℕ). IsNonDecreasingBy (λ (x : ℕ). x) l) (sym is) (starts_ascend ns))

pub count_started_at_partition_point : (ns : List (List (List (ℕ × ℕ)))) (starts : List ℕ) (place begun : ℕ) → starts ≡ starts_from 0 ns → begun ≤ length starts → IsPartitionPoint (λ y. leb y place ≡ true) (λ y. leb y place ≡ false) starts begun → IsCountStarted ns place begun
count_started_at_partition_point ns starts place begun is bound point =
    let many : length starts ≡ length ns = ap length is ∙ starts_length 0 ns in
    let at = λ (k : ℕ) (lt : k < length ns). ap (λ (l : List ℕ). get_or l k 0) is ∙ starts_at 0 ns k 0 lt in
    record {
      bound = omega arith;
      before = λ some.
          let inside : begun - 1 < length ns = omega arith in
          let low = leb-true _ _ (point.0 (begun - 1) 0 (omega arith) (omega arith)) in
          omega (arith, at (begun - 1) inside, low);
      after = λ more.
          let high = leb-false _ _ (point.1 begun 0 (omega arith) (omega arith)) in
          omega (arith, at begun more, high);
    }

-- ---- what the code reads of the starts

-- a start is the number of blocks before a node
start_is_count : (ns : List (List (List (ℕ × ℕ)))) (starts : List ℕ) (i start : ℕ) → starts ≡ starts_from 0 ns → i < length ns → start ≡ get_or starts i start → start ≡ length (concat (take i ns))
start_is_count ns starts i start is lt at = at ∙ ap (λ (l : List ℕ). get_or l i start) is ∙ starts_at 0 ns i start lt ∙ omega arith

pub start_of_count : (ns value : List (List (List (ℕ × ℕ)))) (starts : List ℕ) (place begun start : ℕ) → starts ≡ starts_from 0 ns → ns ≡ value → IsCountStarted value place begun → (begun ≡ 0 → ⊥) → start ≡ get_or starts (begun - 1) start → (start ≡ length (concat (take (begun - 1) value))) × (start ≤ place)
start_of_count ns value starts place begun start is same b some at =
    let bound = b.bound in
    let inside : begun - 1 < length ns = omega (arith, ap length same) in
    let here = start_is_count ns starts (begun - 1) start is inside at ∙ ap (λ (l : List (List (List (ℕ × ℕ)))). length (concat (take (begun - 1) l))) same in
    (here, omega (arith, here, b.before (omega arith)))

pub inside_starts : (ns value : List (List (List (ℕ × ℕ)))) (starts : List ℕ) (place begun : ℕ) → starts ≡ starts_from 0 ns → ns ≡ value → IsCountStarted value place begun → (begun ≡ 0 → ⊥) → (begun - 1 < length starts) × (begun - 1 < length ns) × (begun - 1 < length value)
inside_starts ns value starts place begun is same b some =
    let bound = b.bound in
    let many = ap length is ∙ starts_length 0 ns in
    let all = ap length same in
    (omega arith, omega arith, omega arith)

-- the blocks of the last node come last
pub count_all : (ns : List (List (List (ℕ × ℕ)))) (starts : List ℕ) (count start : ℕ) (node : List (List (ℕ × ℕ))) → starts ≡ starts_from 0 ns → count ≡ length ns → 0 < count → start ≡ get_or starts (count - 1) start → node ≡ get_or ns (count - 1) node → start + length node ≡ length (concat ns)
count_all ns starts count start node is many some at there =
    let inside : count - 1 < length ns = omega arith in
    let here = start_is_count ns starts (count - 1) start is inside at in
    let taken = concat_lengths_next ns (count - 1) node inside there in
    let done = concat_length_complete ns (count - 1 + 1) (omega arith) in
    omega (arith, here, taken.0, done)

-- no node begins at or before the position, because the list is empty
pub start_count_zero : (ns : List (List (List (ℕ × ℕ)))) (place begun : ℕ) → IsCountStarted ns place begun → begun ≡ 0 → length (concat ns) ≤ place
start_count_zero [] place begun b none = omega arith
start_count_zero (n ∷ ns) place begun b none = let more = b.after (omega arith) in absurd (omega (arith, more, ap (λ k. length (concat (take k (n ∷ ns)))) none))

-- if a node begins at or before the position and has too few blocks, it is the last
pub none_left : (ns : List (List (List (ℕ × ℕ)))) (place begun start : ℕ) (node : List (List (ℕ × ℕ))) → IsCountStarted ns place begun → 0 < begun → node ≡ get_or ns (begun - 1) node → start ≡ length (concat (take (begun - 1) ns)) → length node ≤ place - start → length (concat ns) ≤ place
none_left ns place begun start node b some there at short =
    let bound = b.bound in
    let inside : begun - 1 < length ns = omega arith in
    let taken = concat_lengths_next ns (begun - 1) node inside there in
    let next : begun - 1 + 1 ≡ begun = omega arith in
    let upto = ap (λ k. length (concat (take k ns))) next in
    let low = b.before some in
    let high = b.after in
    let all = concat_length_complete ns begun in
    grind arith

-- ---- starts after a node that was replaced

-- if as many blocks are removed as added, no start changes
pub shift_by_zero : (less more : ℕ) (ns : List ℕ) → less ≡ more → ((k : ℕ) → k < length ns → (less ≤ get_or ns k 0) × (get_or ns k 0 + more ≤ 18446744073709551615)) → ns ≡ shift_starts less more ns
shift_by_zero less more [] e fit = refl
shift_by_zero less more (n ∷ ns) e fit =
    let here : n ≡ n - less + more = omega (arith, (fit 0 (omega arith)).0) in
    let rest = shift_by_zero less more ns e (λ k lt. fit (suc k) (omega arith)) in
    λ i. here i ∷ rest i

-- one more start is adjusted
pub shift_next_start : (less more : ℕ) (ns starts : List ℕ) (i : ℕ) → i < length ns → starts ≡ take i (shift_starts less more ns) ++ drop i ns → slice_set starts i (get_or starts i 0 - less + more) ≡ take (i + 1) (shift_starts less more ns) ++ drop (i + 1) ns
shift_next_start less more ns starts i lt is =
    let next : suc i ≡ i + 1 = omega arith in
    ap (λ (l : List ℕ). slice_set l i (get_or l i 0 - less + more)) is ∙ step less more ns i lt ∙ ap (λ k. take k (shift_starts less more ns) ++ drop k ns) next
  where
    step : (less more : ℕ) (ns : List ℕ) (i : ℕ) → i < length ns → slice_set (take i (shift_starts less more ns) ++ drop i ns) i (get_or (take i (shift_starts less more ns) ++ drop i ns) i 0 - less + more) ≡ take (suc i) (shift_starts less more ns) ++ drop (suc i) ns
    step less more [] i lt = absurd (omega arith)
    step less more (n ∷ ns) zero lt = refl
    step less more (n ∷ ns) (suc i) lt = ap (λ (l : List ℕ). (n - less + more) ∷ l) (step less more ns i (omega arith))

pub start_before_shift : (less more : ℕ) (ns starts : List ℕ) (i : ℕ) → i < length ns → starts ≡ take i (shift_starts less more ns) ++ drop i ns → get_or starts i 0 ≡ get_or ns i 0
start_before_shift less more ns starts i lt is = ap (λ (l : List ℕ). get_or l i 0) is ∙ here less more ns i lt
  where
    here : (less more : ℕ) (ns : List ℕ) (i : ℕ) → i < length ns → get_or (take i (shift_starts less more ns) ++ drop i ns) i 0 ≡ get_or ns i 0
    here less more [] i lt = absurd (omega arith)
    here less more (n ∷ ns) zero lt = refl
    here less more (n ∷ ns) (suc i) lt = here less more ns i (omega arith)

pub all_starts_shifted : (less more : ℕ) (ns starts : List ℕ) (i : ℕ) → length ns ≤ i → starts ≡ take i (shift_starts less more ns) ++ drop i ns → starts ≡ shift_starts less more ns
all_starts_shifted less more ns starts i le is = is ∙ all less more ns i le
  where
    all : (less more : ℕ) (ns : List ℕ) (i : ℕ) → length ns ≤ i → take i (shift_starts less more ns) ++ drop i ns ≡ shift_starts less more ns
    all less more [] zero le = refl
    all less more [] (suc i) le = refl
    all less more (n ∷ ns) zero le = absurd (omega arith)
    all less more (n ∷ ns) (suc i) le = ap (λ (l : List ℕ). (n - less + more) ∷ l) (all less more ns i (omega arith))

starts_from_shifted : {X : Type 0} (n m less more : ℕ) (xs : List (List X)) → m ≡ n + less → starts_from (n + more) xs ≡ shift_starts less more (starts_from m xs)
starts_from_shifted n m less more [] e = refl
starts_from_shifted n m less more (x ∷ xs) e =
    let here : n + more ≡ m - less + more = omega arith in
    let rest = ap (λ k. starts_from k xs) (omega arith) ∙ starts_from_shifted (n + length x) (m + length x) less more xs (omega arith) in
    λ i. here i ∷ rest i

-- one list replaced by one
pub starts_one : {X : Type 0} (n p : ℕ) (xs : List (List X)) (old new : List X) → p < length xs → old ≡ get_or xs p old → starts_from n (take p xs ++ (new ∷ drop (suc p) xs)) ≡ take (suc p) (starts_from n xs) ++ shift_starts (length old) (length new) (drop (suc p) (starts_from n xs))
starts_one {X} n p [] old new lt is = absurd (omega arith)
starts_one {X} n zero (x ∷ xs) old new lt is = ap (λ l. n ∷ l) (starts_from_shifted n (n + length x) (length old) (length new) xs (ap (λ (l : List X). n + length l) (sym is)))
starts_one {X} n (suc p) (x ∷ xs) old new lt is = ap (λ l. n ∷ l) (starts_one (n + length x) p xs old new (omega arith) is)

-- one list replaced by two
pub starts_two : {X : Type 0} (n p start : ℕ) (xs : List (List X)) (old first second : List X) → p < length xs → old ≡ get_or xs p old → start ≡ get_or (starts_from n xs) p 0 + length first → starts_from n (take p xs ++ (first ∷ (second ∷ drop (suc p) xs))) ≡ take (suc p) (starts_from n xs) ++ (start ∷ shift_starts (length old) (length first + length second) (drop (suc p) (starts_from n xs)))
starts_two {X} n p start [] old first second lt is at = absurd (omega arith)
starts_two {X} n zero start (x ∷ xs) old first second lt is at =
    let rest = ap (λ k. starts_from k xs) (omega arith) ∙ starts_from_shifted n (n + length x) (length old) (length first + length second) xs (ap (λ (l : List X). n + length l) (sym is)) in
    λ i. n ∷ (sym at i ∷ rest i)
starts_two {X} n (suc p) start (x ∷ xs) old first second lt is at = ap (λ l. n ∷ l) (starts_two (n + length x) p start xs old first second (omega arith) is at)

length_of_shifted_starts : (less more : ℕ) (ns : List ℕ) → length (shift_starts less more ns) ≡ length ns
length_of_shifted_starts less more [] = refl
length_of_shifted_starts less more (n ∷ ns) = ap suc (length_of_shifted_starts less more ns)

-- the starts from a position on were adjusted in their list
pub part_of_starts_shifted : (less more p len : ℕ) (ns now part : List ℕ) → now ≡ ns → len ≡ length ns → p ≤ length ns → part ≡ shift_starts less more (take (length now - p) (drop p now)) → take len (put_mid p (length now - p) now part ++ drop (length (put_mid p (length now - p) now part)) ns) ≡ take p ns ++ shift_starts less more (drop p ns)
part_of_starts_shifted less more p len ns now part same is_len le is =
    let whole = put_mid p (length now - p) now part in
    let rest : part ≡ shift_starts less more (drop p ns) = is ∙ ap (shift_starts less more) (take_rest now p) ∙ ap (λ (l : List ℕ). shift_starts less more (drop p l)) same in
    let all = ap length same in
    let many : length part ≡ length now - p = omega (arith, ap length rest, length_of_shifted_starts less more (drop p ns), length-drop p ns) in
    let long : len ≡ length whole = omega (arith, length-append (take p now) (part ++ drop (length now - p) (drop p now)), length-append part (drop (length now - p) (drop p now)), length-drop (length now - p) (drop p now), length-drop p now, length-take-le p now (omega arith)) in
    take_at whole (drop (length whole) ns) len (sym long)
    ∙ sym (take_all len whole (omega arith))
    ∙ take-put_mid p (length now - p) now part len (omega arith) (omega arith)
    ∙ (λ i. take p (same i) ++ rest i)

pub part_fits : (less more p : ℕ) (ns now : List ℕ) → now ≡ ns → ((k : ℕ) → k < length (drop p ns) → (less ≤ get_or (drop p ns) k 0) × (get_or (drop p ns) k 0 + more ≤ 18446744073709551615)) → (k : ℕ) → k < length (take (length now - p) (drop p now)) → (less ≤ get_or (take (length now - p) (drop p now)) k 0) × (get_or (take (length now - p) (drop p now)) k 0 + more ≤ 18446744073709551615)
part_fits less more p ns now same fits =
    subst (λ (l : List ℕ). (k : ℕ) → k < length l → (less ≤ get_or l k 0) × (get_or l k 0 + more ≤ 18446744073709551615)) (sym (take_rest now p ∙ ap (λ (l : List ℕ). drop p l) same)) fits

pub stored_blocks : (ns : List (List (List (ℕ × ℕ)))) → IsStored [] ns → AreStored (concat ns)
stored_blocks ns stored = record {
  sized = stored.sized;
  normal = stored.normal;
}

-- each start after a node counts the node's blocks
pub starts_fit : (ns : List (List (List (ℕ × ℕ)))) (starts : List ℕ) (p less more : ℕ) (old : List (List (ℕ × ℕ))) → starts ≡ starts_from 0 ns → p < length ns → old ≡ get_or ns p old → less ≡ length old → more ≤ 32 → AreStored (concat ns) → (k : ℕ) → k < length (drop (p + 1) starts) → (less ≤ get_or (drop (p + 1) starts) k 0) × (get_or (drop (p + 1) starts) k 0 + more ≤ 18446744073709551615)
starts_fit ns starts p less more old is lt there is_less few stored = λ k inside.
    let many = ap length is ∙ starts_length 0 ns in
    let within : p + 1 + k < length ns = omega (arith, many, length-drop (p + 1) starts) in
    let at = get_or-drop (p + 1) starts k 0 ∙ ap (λ (l : List ℕ). get_or l (p + 1 + k) 0) is ∙ starts_at 0 ns (p + 1 + k) 0 within in
    let taken = (concat_lengths_next ns p old lt there).0 in
    let low = lengths_ascend ns (p + 1) (p + 1 + k) (omega arith) in
    let high = lengths_ascend ns (p + 1 + k) (length ns) (omega arith) in
    let all = concat_length_complete ns (length ns) (omega arith) in
    let most = block_count_bounded (concat ns) stored in
    (omega (arith, at, taken, low), omega (arith, at, high, all, most))

pub placed_one : (ns : List (List (List (ℕ × ℕ)))) (starts starts' : List ℕ) (p less more : ℕ) (old new : List (List (ℕ × ℕ))) → starts ≡ starts_from 0 ns → p < length ns → old ≡ get_or ns p old → less ≡ length old → more ≡ length new → starts' ≡ take (p + 1) starts ++ shift_starts less more (drop (p + 1) starts) → starts' ≡ starts_from 0 (take p ns ++ (new ∷ drop (p + 1) ns))
placed_one ns starts starts' p less more old new is lt there is_less is_more made =
    let next : p + 1 ≡ suc p = omega arith in
    made ∙ (λ i. take (next i) (is i) ++ shift_starts (is_less i) (is_more i) (drop (next i) (is i)))
    ∙ sym (starts_one 0 p ns old new lt there)
    ∙ ap (λ k. starts_from 0 (take p ns ++ (new ∷ drop k ns))) (sym next)

inserted_there : (q v : ℕ) (starts after : List ℕ) → q ≤ length starts → insert (take q starts ++ after) q v ≡ take q starts ++ (v ∷ after)
inserted_there q v starts after le =
    let long : length (take q starts) ≡ q = length-take-le q starts le in
    λ i. take_at (take q starts) after q long i ++ (v ∷ drop_at (take q starts) after q long i)

pub placed_two : (ns : List (List (List (ℕ × ℕ)))) (starts between starts' : List ℕ) (p start a less more : ℕ) (old first second : List (List (ℕ × ℕ))) (ok : Bool) → starts ≡ starts_from 0 ns → p < length ns → old ≡ get_or ns p old → less ≡ length old → start ≡ get_or starts p start → a ≡ length first → more ≡ length first + length second → between ≡ take (p + 1) starts ++ shift_starts less more (drop (p + 1) starts) → ok ≡ true → starts' ≡ cond ok (insert between (p + 1) (start + a)) between → starts' ≡ starts_from 0 (take p ns ++ (first ∷ (second ∷ drop (p + 1) ns)))
placed_two ns starts between starts' p start a less more old first second ok is lt there is_less at is_a is_more moved_is done made =
    let next : p + 1 ≡ suc p = omega arith in
    let many = ap length is ∙ starts_length 0 ns in
    let read = starts_at 0 ns p start lt in
    let read' = starts_at 0 ns p 0 lt in
    let here : start + a ≡ get_or (starts_from 0 ns) p 0 + length first = omega (arith, at ∙ ap (λ (l : List ℕ). get_or l p start) is, read, read', is_a) in
    made ∙ ap (λ (t : Bool). cond t (insert between (p + 1) (start + a)) between) done
    ∙ ap (λ (l : List ℕ). insert l (p + 1) (start + a)) moved_is
    ∙ inserted_there (p + 1) (start + a) starts (shift_starts less more (drop (p + 1) starts)) (omega arith)
    ∙ (λ i. take (next i) (is i) ++ (here i ∷ shift_starts (is_less i) (is_more i) (drop (next i) (is i))))
    ∙ sym (starts_two 0 p (get_or (starts_from 0 ns) p 0 + length first) ns old first second lt there refl)
    ∙ ap (λ k. starts_from 0 (take p ns ++ (first ∷ (second ∷ drop k ns)))) (sym next)

pub start_bound : (ns : List (List (List (ℕ × ℕ)))) (starts : List ℕ) (p start : ℕ) → starts ≡ starts_from 0 ns → p < length ns → start ≡ get_or starts p start → AreStored (concat ns) → start ≤ pixel_count
start_bound ns starts p start is lt at stored =
    omega (arith, at ∙ ap (λ (l : List ℕ). get_or l p start) is, starts_at 0 ns p start lt, lengths_ascend ns p (length ns) (omega arith), concat_length_complete ns (length ns) (omega arith), block_count_bounded (concat ns) stored)
