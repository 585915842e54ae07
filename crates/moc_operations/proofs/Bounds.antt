-- The symmetric difference of two lists of ranges, bound by bound.
use Rattle.std.proofs.Common.{◌≡◌, ℕ, zero, suc, ◌+◌, ◌-◌, ◌*◌, ◌/◌, ◌%◌, ◌<◌, ◌≤◌, Bool, true, false, not, ◌||◌, ◌&&◌}
use Rattle.std.proofs.Common.{List, [], ◌∷◌, ◌++◌, Option, None, Some, length, get_or, take, drop, min, refl, sym, ap}
use Rattle.std.proofs.Common.{subst, ◌∙◌, arith, append_assoc, drop-drop, length-append, inl, inr, ◌⊎◌}
use mir.Val.{bool_byte}
use Rattle.std.specs.Prelude.{nat_eq, nat_le, nat_lt, slice_set}
use Rattle.std.proofs.lemmas.Bool.{cases_lt, eq-eqb, le-leb, lt-leb, ne_eqb}
use Rattle.std.proofs.lemmas.Bool.Decides.{nat_tests}
use Rattle.std.proofs.lemmas.List.{drop-append-le, length-drop, length-take, take-append-drop, take-set, take_all}
use Rattle.std.proofs.lemmas.Grind.{take-set_at}
use Rattle.std.proofs.Math.Seq.{drop-cons}
use Rattle.moc_blocks.specs.RangeList.{pixel_count, IsNormal}
use Rattle.moc_blocks.specs.Lemmas.Members.{in_ranges}
use Rattle.moc_blocks.specs.Private.Blocks.{next_of}
use Rattle.moc_blocks.specs.Private.Built.{CanAppend, EndsBelow}
use Rattle.moc_operations.specs.Private.Differing.{exactly_one, IsSymmetricStep}
use Rattle.moc_operations.specs.Private.SymmetricBounds.{bounds_of, is_odd_at, AreAscendingBounds, open_of, restored_range, AreBounds, IsBoundsStep}
use Rattle.moc_operations.specs.Private.Walks.{from_current}
use Rattle.moc_blocks.specs.Lemmas.Ranges.{later_only}
use Rattle.moc_blocks.proofs.Blocking.{IsNormal-prefix, IsNormal-suffix, append_empty}
use Rattle.moc_blocks.proofs.Merging.{normal_append, ends_next, EndsBelow-more}
use Rattle.moc_operations.proofs.Differing.{differs_after_removal, differs_none, differs_swap, differing_swap, ends_both}

-- ---- exclusive or

differs_assoc : (a b c : Bool) → exactly_one (exactly_one a b) c ≡ exactly_one a (exactly_one b c)
differs_assoc true true true = refl
differs_assoc true true false = refl
differs_assoc true false true = refl
differs_assoc true false false = refl
differs_assoc false true true = refl
differs_assoc false true false = refl
differs_assoc false false true = refl
differs_assoc false false false = refl

-- a bound in both lists cancels
differs_both : (a b c d : Bool) → exactly_one (exactly_one a b) c ≡ exactly_one (exactly_one a (exactly_one d b)) (exactly_one d c)
differs_both true true true true = refl
differs_both true true true false = refl
differs_both true true false true = refl
differs_both true true false false = refl
differs_both true false true true = refl
differs_both true false true false = refl
differs_both true false false true = refl
differs_both true false false false = refl
differs_both false true true true = refl
differs_both false true true false = refl
differs_both false true false true = refl
differs_both false true false false = refl
differs_both false false true true = refl
differs_both false false true false = refl
differs_both false false false true = refl
differs_both false false false false = refl

differs_last : (a b c : Bool) → exactly_one (exactly_one a b) c ≡ exactly_one (exactly_one a c) b
differs_last a b c = differs_assoc a b c ∙ ap (λ d. exactly_one a d) (differs_swap b c) ∙ sym (differs_assoc a c b)

-- ---- bounds

pub bounds-append : (rs ss : List (ℕ × ℕ)) → bounds_of (rs ++ ss) ≡ bounds_of rs ++ bounds_of ss
bounds-append [] ss = refl
bounds-append (r ∷ rs) ss = ap (λ l. r.0 ∷ (r.1 ∷ l)) (bounds-append rs ss)

pub bound_count : (rs : List (ℕ × ℕ)) → length (bounds_of rs) ≡ 2 * length rs
bound_count [] = refl
bound_count (r ∷ rs) = omega (arith, bound_count rs)

odd-append : (xs ys : List ℕ) (q : ℕ) → is_odd_at (xs ++ ys) q ≡ exactly_one (is_odd_at xs q) (is_odd_at ys q)
odd-append [] ys q = differs_none (is_odd_at ys q)
odd-append (x ∷ xs) ys q = ap (λ d. exactly_one (nat_le x q) d) (odd-append xs ys q) ∙ sym (differs_assoc (nat_le x q) (is_odd_at xs q) (is_odd_at ys q))

ascending_bounds_less : (low low' : ℕ) (bs : List ℕ) → AreAscendingBounds low bs → low' ≤ low → AreAscendingBounds low' bs
ascending_bounds_less low low' [] r le = tt
ascending_bounds_less low low' (b ∷ bs) r le = (omega (arith, r.0), r.1, r.2)

ascending_drop : (kept xs : List ℕ) (x low : ℕ) → AreAscendingBounds low (kept ++ x ∷ xs) → AreAscendingBounds low (kept ++ xs)
ascending_drop [] xs x low r = ascending_bounds_less (x + 1) low xs r.2 (omega (arith, r.0))
ascending_drop (k ∷ kept) xs x low r = (r.0, r.1, ascending_drop kept xs x (k + 1) r.2)

ascending_bounds_merge : (kept xs ys : List ℕ) (a b low : ℕ) → AreAscendingBounds low (kept ++ a ∷ xs) → AreAscendingBounds low (kept ++ b ∷ ys) → a < b → AreAscendingBounds low (kept ++ a ∷ (b ∷ ys))
ascending_bounds_merge [] xs ys a b low r s lt = (r.0, r.1, (omega arith, s.1, s.2))
ascending_bounds_merge (k ∷ kept) xs ys a b low r s lt = (r.0, r.1, ascending_bounds_merge kept xs ys a b (k + 1) r.2 s.2 lt)

pub ascending_bounds_normal : (rs : List (ℕ × ℕ)) (low : ℕ) → AreAscendingBounds low (bounds_of rs) → IsNormal rs
ascending_bounds_normal [] low r = tt
ascending_bounds_normal (x ∷ []) low r = (omega (arith, r.2.0), r.2.1, tt, tt)
ascending_bounds_normal (x ∷ (y ∷ rs)) low r = (omega (arith, r.2.0), r.2.1, omega (arith, r.2.2.0), ascending_bounds_normal (y ∷ rs) (x.1 + 1) r.2.2)

pub normal_bounds_ascend : (rs : List (ℕ × ℕ)) (low : ℕ) → IsNormal rs → low ≤ next_of rs → AreAscendingBounds low (bounds_of rs)
normal_bounds_ascend [] low n le = tt
normal_bounds_ascend (x ∷ []) low n le = (le, omega (arith, n.0, n.1), (omega (arith, n.0), n.1, tt))
normal_bounds_ascend (x ∷ (y ∷ rs)) low n le = (le, omega (arith, n.0, n.1), (omega (arith, n.0), n.1, normal_bounds_ascend (y ∷ rs) (x.1 + 1) n.3 (omega (arith, n.2))))

inside_range : (a b q : ℕ) (later : Bool) → a < b → q < b → later ≡ false → ((nat_le a q && nat_lt q b) || later) ≡ exactly_one (nat_le a q) (exactly_one (nat_le b q) later)
inside_range a b q later filled lt none = grind (arith, nat_tests)

range_by_bounds : (a b q : ℕ) (later : Bool) → a < b → b ≤ q → ((nat_le a q && nat_lt q b) || later) ≡ exactly_one (nat_le a q) (exactly_one (nat_le b q) later)
range_by_bounds a b q true filled ge = grind (arith, nat_tests)
range_by_bounds a b q false filled ge = grind (arith, nat_tests)

pub odd_in : (rs : List (ℕ × ℕ)) (q : ℕ) → IsNormal rs → in_ranges rs q ≡ is_odd_at (bounds_of rs) q
odd_in [] q n = refl
odd_in (r ∷ rs) q n =
    (elim (cases_lt q r.1) [
      | inl lt ↦ inside_range r.0 r.1 q (in_ranges rs q) n.0 lt (later_only r.1 q rs n.3 n.2 (omega arith))
      | inr ge ↦ range_by_bounds r.0 r.1 q (in_ranges rs q) n.0 ge
    ])
    ∙ ap (λ b. exactly_one (nat_le r.0 q) (exactly_one (nat_le r.1 q) b)) (odd_in rs q n.3)

-- ---- a bound is passed

pub common_swap : (kept xs ys : List ℕ) (wx wy : List (ℕ × ℕ)) → AreBounds kept xs ys wx wy → AreBounds kept ys xs wy wx
common_swap kept xs ys wx wy s = record {
  first = s.second;
  second = s.first;
  same = λ q. ap (λ b. exactly_one b (is_odd_at xs q)) (odd-append kept ys q) ∙ differs_last (is_odd_at kept q) (is_odd_at ys q) (is_odd_at xs q)
      ∙ ap (λ b. exactly_one b (is_odd_at ys q)) (sym (odd-append kept xs q)) ∙ s.same q ∙ differs_swap (in_ranges wx q) (in_ranges wy q);
}

common_first : (kept xs ys : List ℕ) (wx wy : List (ℕ × ℕ)) (a b : ℕ) → AreBounds kept (a ∷ xs) (b ∷ ys) wx wy → a < b → AreBounds (kept ++ a ∷ []) xs (b ∷ ys) wx wy
common_first kept xs ys wx wy a b s lt = record {
  first = subst (λ l. AreAscendingBounds 0 l) (sym (append_assoc kept (a ∷ []) xs)) s.first;
  second = subst (λ l. AreAscendingBounds 0 l) (sym (append_assoc kept (a ∷ []) (b ∷ ys))) (ascending_bounds_merge kept xs ys a b 0 s.first s.second lt);
  same = λ q. ap (λ (l : List ℕ). exactly_one (is_odd_at l q) (is_odd_at (b ∷ ys) q)) (append_assoc kept (a ∷ []) xs) ∙ s.same q;
}

common_both : (kept xs ys : List ℕ) (wx wy : List (ℕ × ℕ)) (a b : ℕ) → AreBounds kept (a ∷ xs) (b ∷ ys) wx wy → a ≡ b → AreBounds kept xs ys wx wy
common_both kept xs ys wx wy a b s is = record {
  first = ascending_drop kept xs a 0 s.first;
  second = ascending_drop kept ys b 0 s.second;
  same = λ q. ap (λ d. exactly_one d (is_odd_at ys q)) (odd-append kept xs q)
      ∙ differs_both (is_odd_at kept q) (is_odd_at xs q) (is_odd_at ys q) (nat_le a q)
      ∙ ap (λ d. exactly_one d (exactly_one (nat_le a q) (is_odd_at ys q))) (sym (odd-append kept (a ∷ xs) q))
      ∙ ap (λ n. exactly_one (is_odd_at (kept ++ a ∷ xs) q) (exactly_one (nat_le n q) (is_odd_at ys q))) is
      ∙ s.same q;
}

-- ---- bounds by position

pub bound_even : (rs : List (ℕ × ℕ)) (n place : ℕ) (d : ℕ × ℕ) → n < length rs → place ≡ 2 * n → (get_or rs n d).0 ≡ get_or (bounds_of rs) place 0
bound_even [] n place d lt is = absurd (omega arith)
bound_even (r ∷ rs) zero place d lt is = rw is refl
bound_even (r ∷ rs) (suc n) place d lt is =
    let at : place ≡ suc (suc (2 * n)) = omega arith in
    bound_even rs n (2 * n) d (omega arith) refl ∙ ap (λ k. get_or (bounds_of (r ∷ rs)) k 0) (sym at)

pub bound_odd : (rs : List (ℕ × ℕ)) (n place : ℕ) (d : ℕ × ℕ) → n < length rs → place ≡ 2 * n + 1 → (get_or rs n d).1 ≡ get_or (bounds_of rs) place 0
bound_odd [] n place d lt is = absurd (omega arith)
bound_odd (r ∷ rs) zero place d lt is = rw is refl
bound_odd (r ∷ rs) (suc n) place d lt is =
    let at : place ≡ suc (suc (2 * n + 1)) = omega arith in
    bound_odd rs n (2 * n + 1) d (omega arith) refl ∙ ap (λ k. get_or (bounds_of (r ∷ rs)) k 0) (sym at)

-- ---- one step of the loop

append_written_value : (kept out : List ℕ) (written written' value : ℕ) → written < length out → written' ≡ written + 1 → kept ++ take written' (slice_set out written value) ≡ (kept ++ take written out) ++ value ∷ []
append_written_value kept out written written' value buffer is =
    ap (λ l. kept ++ l) (take-set_at out written written' value is buffer) ∙ sym (append_assoc kept (take written out) (value ∷ []))

drop_to_index : (xs tail : List ℕ) (i : ℕ) → i < length xs → drop i xs ++ tail ≡ get_or xs i 0 ∷ (drop (suc i) xs ++ tail)
drop_to_index xs tail i lt = ap (λ l. l ++ tail) (drop-cons xs i 0 lt)

bounds_after_less : (kept xs ys bx by out : List ℕ) (wx wy : List (ℕ × ℕ)) (written written' i i' j value : ℕ) → AreBounds (kept ++ take written out) (drop i xs ++ bx) (drop j ys ++ by) wx wy
    → i < length xs → j < length ys → written < length out → get_or xs i 0 < get_or ys j 0 → value ≡ get_or xs i 0 → written' ≡ written + 1 → i' ≡ suc i
    → AreBounds (kept ++ take written' (slice_set out written value)) (drop i' xs ++ bx) (drop j ys ++ by) wx wy
bounds_after_less kept xs ys bx by out wx wy written written' i i' j value s hx hy buffer lt is one next =
    let there = drop_to_index ys by j hy in
    let begun = subst (λ l. AreBounds (kept ++ take written out) l (get_or ys j 0 ∷ (drop (suc j) ys ++ by)) wx wy) (drop_to_index xs bx i hx) (subst (λ l. AreBounds (kept ++ take written out) (drop i xs ++ bx) l wx wy) there s) in
    let on = common_first (kept ++ take written out) (drop (suc i) xs ++ bx) (drop (suc j) ys ++ by) wx wy (get_or xs i 0) (get_or ys j 0) begun lt in
    let kept' : (kept ++ take written out) ++ get_or xs i 0 ∷ [] ≡ kept ++ take written' (slice_set out written value) = ap (λ v. (kept ++ take written out) ++ v ∷ []) (sym is) ∙ sym (append_written_value kept out written written' value buffer one) in
    subst (λ n. AreBounds (kept ++ take written' (slice_set out written value)) (drop n xs ++ bx) (drop j ys ++ by) wx wy) (sym next)
    (subst (λ l. AreBounds (kept ++ take written' (slice_set out written value)) (drop (suc i) xs ++ bx) l wx wy) (sym there)
    (subst (λ l. AreBounds l (drop (suc i) xs ++ bx) (get_or ys j 0 ∷ (drop (suc j) ys ++ by)) wx wy) kept' on))

bounds_after_both : (kept xs ys bx by out : List ℕ) (wx wy : List (ℕ × ℕ)) (written written' i i' j j' value : ℕ) → AreBounds (kept ++ take written out) (drop i xs ++ bx) (drop j ys ++ by) wx wy
    → i < length xs → j < length ys → get_or xs i 0 ≡ get_or ys j 0 → written' ≡ written → i' ≡ suc i → j' ≡ suc j
    → AreBounds (kept ++ take written' (slice_set out written value)) (drop i' xs ++ bx) (drop j' ys ++ by) wx wy
bounds_after_both kept xs ys bx by out wx wy written written' i i' j j' value s hx hy eq none next next' =
    let begun = subst (λ l. AreBounds (kept ++ take written out) l (get_or ys j 0 ∷ (drop (suc j) ys ++ by)) wx wy) (drop_to_index xs bx i hx) (subst (λ l. AreBounds (kept ++ take written out) (drop i xs ++ bx) l wx wy) (drop_to_index ys by j hy) s) in
    let on = common_both (kept ++ take written out) (drop (suc i) xs ++ bx) (drop (suc j) ys ++ by) wx wy (get_or xs i 0) (get_or ys j 0) begun eq in
    let same : kept ++ take written out ≡ kept ++ take written' (slice_set out written value) = ap (λ l. kept ++ l) (sym (ap (λ n. take n (slice_set out written value)) none ∙ take-set out written value)) in
    subst (λ n. AreBounds (kept ++ take written' (slice_set out written value)) (drop n xs ++ bx) (drop j' ys ++ by) wx wy) (sym next)
    (subst (λ n. AreBounds (kept ++ take written' (slice_set out written value)) (drop (suc i) xs ++ bx) (drop n ys ++ by) wx wy) (sym next')
    (subst (λ l. AreBounds l (drop (suc i) xs ++ bx) (drop (suc j) ys ++ by) wx wy) same on))

-- one step: at equal bounds both sides advance, and no bound is written
pub record IsStep (x y value kept first second : ℕ) : Type 0 where
  pub least : value ≡ min x y
  pub less : x < y → (kept ≡ 1) × (first ≡ 1) × (second ≡ 0)
  pub equal : x ≡ y → (kept ≡ 0) × (first ≡ 1) × (second ≡ 1)
  pub more : y < x → (kept ≡ 1) × (first ≡ 0) × (second ≡ 1)

pub step_of : (x y value kept first second : ℕ) → value ≡ min x y → kept ≡ bool_byte (not (nat_eq x y)) → first ≡ bool_byte (nat_le x y) → second ≡ bool_byte (nat_le y x) → IsStep x y value kept first second
step_of x y value kept first second v k f s = record {
  least = v;
  less = λ lt. (k ∙ ap (λ b. bool_byte (not b)) (ne_eqb x y (λ is. omega arith)), f ∙ ap bool_byte (le-leb x y (omega arith)), s ∙ ap bool_byte (lt-leb y x lt));
  equal = λ is. (k ∙ ap (λ b. bool_byte (not b)) (eq-eqb x y is), f ∙ ap bool_byte (le-leb x y (omega arith)), s ∙ ap bool_byte (le-leb y x (omega arith)));
  more = λ gt. (k ∙ ap (λ b. bool_byte (not b)) (ne_eqb x y (λ is. omega arith)), f ∙ ap bool_byte (lt-leb x y gt), s ∙ ap bool_byte (le-leb y x (omega arith)));
}

-- each bound that is passed is written, or cancels with another
pub step_all : (x y value kept first second : ℕ) → IsStep x y value kept first second → (kept ≤ 1) × (first ≤ 1) × (second ≤ 1) × (first + second ≡ kept + 2 * (1 - kept))
step_all x y value kept first second t = elim (cases_lt x y) [
  | inl lt ↦ let f = t.less lt in (omega (arith, f.0), omega (arith, f.1), omega (arith, f.2), omega (arith, f.0, f.1, f.2))
  | inr ge ↦ elim (cases_lt y x) [
    | inl gt ↦ let f = t.more gt in (omega (arith, f.0), omega (arith, f.1), omega (arith, f.2), omega (arith, f.0, f.1, f.2))
    | inr le ↦ let f = t.equal (omega arith) in (omega (arith, f.0), omega (arith, f.1), omega (arith, f.2), omega (arith, f.0, f.1, f.2))
  ]
]

pub bounds_after_equal : (kept xs ys bx by out : List ℕ) (wx wy : List (ℕ × ℕ)) (written i j value k n m : ℕ) → AreBounds (kept ++ take written out) (drop i xs ++ bx) (drop j ys ++ by) wx wy
    → i < length xs → j < length ys → written < length out → IsStep (get_or xs i 0) (get_or ys j 0) value k n m
    → AreBounds (kept ++ take (written + k) (slice_set out written value)) (drop (i + n) xs ++ bx) (drop (j + m) ys ++ by) wx wy
bounds_after_equal kept xs ys bx by out wx wy written i j value k n m s hx hy buffer t = elim (cases_lt (get_or xs i 0) (get_or ys j 0)) [
  | inl lt ↦
      let f = t.less lt in
      let at : j ≡ j + m = omega (arith, f.2) in
      subst (λ p. AreBounds (kept ++ take (written + k) (slice_set out written value)) (drop (i + n) xs ++ bx) (drop p ys ++ by) wx wy) at
      (bounds_after_less kept xs ys bx by out wx wy written (written + k) i (i + n) j value s hx hy buffer lt (omega (arith, t.least)) (omega (arith, f.0)) (omega (arith, f.1)))
  | inr ge ↦ elim (cases_lt (get_or ys j 0) (get_or xs i 0)) [
    | inl gt ↦
        let f = t.more gt in
        let at : i ≡ i + n = omega (arith, f.1) in
        subst (λ p. AreBounds (kept ++ take (written + k) (slice_set out written value)) (drop p xs ++ bx) (drop (j + m) ys ++ by) wx wy) at
        (common_swap _ _ _ _ _ (bounds_after_less kept ys xs by bx out wy wx written (written + k) j (j + m) i value (common_swap _ _ _ _ _ s) hy hx buffer gt (omega (arith, t.least)) (omega (arith, f.0)) (omega (arith, f.2))))
    | inr le ↦
        let eq : get_or xs i 0 ≡ get_or ys j 0 = omega arith in
        let f = t.equal eq in
        bounds_after_both kept xs ys bx by out wx wy written (written + k) i (i + n) j (j + m) value s hx hy eq (omega (arith, f.0)) (omega (arith, f.1)) (omega (arith, f.2))
  ]
]

-- ---- from bounds to ranges

ascending_bounds_low : (xs more : List ℕ) (a low : ℕ) → AreAscendingBounds low (xs ++ a ∷ more) → low ≤ a
ascending_bounds_low [] more a low r = r.0
ascending_bounds_low (x ∷ xs) more a low r = let rest = ascending_bounds_low xs more a (x + 1) r.2 in omega (arith, r.0, rest)

pub pairs_head : (ks : List (ℕ × ℕ)) (more : List ℕ) (a b low : ℕ) → AreAscendingBounds low (bounds_of ks ++ a ∷ (b ∷ more)) → (a < b) × (b ≤ pixel_count) × EndsBelow a ks
pairs_head [] more a b low r = (omega (arith, r.2.0), r.2.1, tt)
pairs_head (k ∷ ks) more a b low r =
    let rest = pairs_head ks more a b (k.1 + 1) r.2.2 in
    let after = ascending_bounds_low (bounds_of ks) (b ∷ more) a (k.1 + 1) r.2.2 in
    (rest.0, rest.1, (omega (arith, after), rest.2))

pub two_items : (xs : List ℕ) → 2 ≤ length xs → xs ≡ get_or xs 0 0 ∷ (get_or xs 1 0 ∷ take (length xs - 2) (drop 2 xs))
two_items [] some = absurd (omega arith)
two_items (x ∷ []) some = absurd (omega arith)
two_items (x ∷ (y ∷ xs)) some =
    let whole : take (length (x ∷ (y ∷ xs)) - 2) xs ≡ xs = take_all (length (x ∷ (y ∷ xs)) - 2) xs (omega arith) in
    ap (λ l. x ∷ (y ∷ l)) (sym whole)

pub bounds_of_next_pair : (ks ks' : List (ℕ × ℕ)) (rest more whole : List ℕ) (a b : ℕ) → ks' ≡ ks ++ (a, b) ∷ [] → rest ≡ a ∷ (b ∷ more) → bounds_of ks ++ rest ≡ whole → bounds_of ks' ++ more ≡ whole
bounds_of_next_pair ks ks' rest more whole a b is parts so =
    ap (λ (k : List (ℕ × ℕ)). bounds_of k ++ more) is ∙ ap (λ l. l ++ more) (bounds-append ks ((a, b) ∷ []))
    ∙ append_assoc (bounds_of ks) (a ∷ (b ∷ [])) more ∙ ap (λ l. bounds_of ks ++ l) (sym parts) ∙ so

-- ---- between blocks

append_nothing : (kept more : List ℕ) → (kept ++ []) ++ more ≡ kept ++ more
append_nothing kept more = ap (λ l. l ++ more) (append_empty kept)

pub common_of : (kept xs ys wx wy : List (ℕ × ℕ)) → IsSymmetricStep kept xs ys wx wy → IsBoundsStep kept None 0 0 xs ys wx wy
common_of kept xs ys wx wy s =
    let before_xs = EndsBelow-more (min (next_of xs) (next_of ys)) (next_of xs) kept s.below (omega arith) in
    let before_ys = EndsBelow-more (min (next_of xs) (next_of ys)) (next_of ys) kept s.below (omega arith) in
    let all_xs = normal_append kept xs s.normal s.first_normal before_xs in
    let all_ys = normal_append kept ys s.normal s.second_normal before_ys in
    let is_xs : (bounds_of kept ++ []) ++ bounds_of xs ≡ bounds_of (kept ++ xs) = append_nothing (bounds_of kept) (bounds_of xs) ∙ sym (bounds-append kept xs) in
    let is_ys : (bounds_of kept ++ []) ++ bounds_of ys ≡ bounds_of (kept ++ ys) = append_nothing (bounds_of kept) (bounds_of ys) ∙ sym (bounds-append kept ys) in
    record {
      symmetric_bounds = record {
        first = subst (λ l. AreAscendingBounds 0 l) (sym is_xs) (normal_bounds_ascend (kept ++ xs) 0 all_xs (omega arith));
        second = subst (λ l. AreAscendingBounds 0 l) (sym is_ys) (normal_bounds_ascend (kept ++ ys) 0 all_ys (omega arith));
        same = λ q. ap (λ (l : List ℕ). exactly_one (is_odd_at l q) (is_odd_at (bounds_of ys) q)) is_xs
            ∙ (λ i. exactly_one (sym (odd_in (kept ++ xs) q all_xs) i) (sym (odd_in ys q s.second_normal) i))
            ∙ differs_after_removal kept xs ys q s.second_normal before_ys ∙ s.same q;
      };
      one = refl;
      first_some = omega arith;
      second_some = omega arith;
      first_normal = s.first_normal;
      second_normal = s.second_normal;
    }

pub differing_of : (kept xs ys wx wy : List (ℕ × ℕ)) → IsBoundsStep kept None 0 0 xs ys wx wy → IsSymmetricStep kept xs ys wx wy
differing_of kept xs ys wx wy s =
    let is_xs : (bounds_of kept ++ []) ++ bounds_of xs ≡ bounds_of (kept ++ xs) = append_nothing (bounds_of kept) (bounds_of xs) ∙ sym (bounds-append kept xs) in
    let is_ys : (bounds_of kept ++ []) ++ bounds_of ys ≡ bounds_of (kept ++ ys) = append_nothing (bounds_of kept) (bounds_of ys) ∙ sym (bounds-append kept ys) in
    let all_xs = ascending_bounds_normal (kept ++ xs) 0 (subst (λ l. AreAscendingBounds 0 l) is_xs s.symmetric_bounds.first) in
    let all_ys = ascending_bounds_normal (kept ++ ys) 0 (subst (λ l. AreAscendingBounds 0 l) is_ys s.symmetric_bounds.second) in
    let before_ys = ends_next kept ys all_ys in
    record {
      normal = IsNormal-prefix kept xs all_xs;
      first_normal = s.first_normal;
      second_normal = s.second_normal;
      below = ends_both (next_of xs) (next_of ys) kept (ends_next kept xs all_xs) before_ys;
      same = λ q. sym (differs_after_removal kept xs ys q s.second_normal before_ys)
          ∙ (λ i. exactly_one (odd_in (kept ++ xs) q all_xs i) (odd_in ys q s.second_normal i))
          ∙ ap (λ (l : List ℕ). exactly_one (is_odd_at l q) (is_odd_at (bounds_of ys) q)) (sym is_xs) ∙ s.symmetric_bounds.same q;
    }

pub crossed_swap : (kept : List (ℕ × ℕ)) (bound : Option ℕ) (i j : ℕ) (xs ys wx wy : List (ℕ × ℕ)) → IsBoundsStep kept bound i j xs ys wx wy → IsBoundsStep kept bound j i ys xs wy wx
crossed_swap kept bound i j xs ys wx wy s = record {
  symmetric_bounds = common_swap _ _ _ wx wy s.symmetric_bounds;
  one = omega (arith, s.one);
  first_some = s.second_some;
  second_some = s.first_some;
  first_normal = s.second_normal;
  second_normal = s.first_normal;
}

-- the range that begins at the open bound
restored_first : (kept : List (ℕ × ℕ)) (b : ℕ) (x : ℕ × ℕ) (xs ys wx wy : List (ℕ × ℕ)) → IsBoundsStep kept (Some b) 1 0 (x ∷ xs) ys wx wy → IsSymmetricStep kept ((b, x.1) ∷ xs) ys wx wy
restored_first kept b x xs ys wx wy s =
    let kb = bounds_of kept in
    let rest = x.1 ∷ bounds_of xs in
    let one : (kb ++ b ∷ []) ++ rest ≡ (kb ++ []) ++ b ∷ rest = append_assoc kb (b ∷ []) rest ∙ sym (append_nothing kb (b ∷ rest)) in
    let first = subst (λ l. AreAscendingBounds 0 l) one s.symmetric_bounds.first in
    let whole = ascending_bounds_normal (kept ++ (b, x.1) ∷ xs) 0 (subst (λ l. AreAscendingBounds 0 l) (append_nothing kb (b ∷ rest) ∙ sym (bounds-append kept ((b, x.1) ∷ xs))) first) in
    differing_of kept ((b, x.1) ∷ xs) ys wx wy (record {
      symmetric_bounds = record {
        first = first;
        second = subst (λ l. AreAscendingBounds 0 l) (sym (append_nothing kb (bounds_of ys))) (ascending_drop kb (bounds_of ys) b 0 (subst (λ l. AreAscendingBounds 0 l) (append_assoc kb (b ∷ []) (bounds_of ys)) s.symmetric_bounds.second));
        same = λ q. ap (λ (l : List ℕ). exactly_one (is_odd_at l q) (is_odd_at (bounds_of ys) q)) (sym one) ∙ s.symmetric_bounds.same q;
      };
      one = refl;
      first_some = omega arith;
      second_some = omega arith;
      first_normal = IsNormal-suffix kept ((b, x.1) ∷ xs) whole;
      second_normal = s.second_normal;
    })

-- ---- when no bound is open

pub bounds_step_without_bound : (kept : List (ℕ × ℕ)) (bound : Option ℕ) (i j : ℕ) (xs ys wx wy : List (ℕ × ℕ)) → bound ≡ None → IsBoundsStep kept bound i j xs ys wx wy → (i ≡ 0) × (j ≡ 0)
bounds_step_without_bound kept bound i j xs ys wx wy is s =
    let none : 0 ≡ i + j = ap (λ o. length (open_of o)) (sym is) ∙ s.one in
    (omega (arith, none), omega (arith, none))

pub symmetric_of_bounds_step : (kept : List (ℕ × ℕ)) (bound : Option ℕ) (i j : ℕ) (xs ys wx wy : List (ℕ × ℕ)) → bound ≡ None → IsBoundsStep kept bound i j xs ys wx wy → IsSymmetricStep kept xs ys wx wy
symmetric_of_bounds_step kept bound i j xs ys wx wy is s =
    let z = bounds_step_without_bound kept bound i j xs ys wx wy is s in
    differing_of kept xs ys wx wy
    (subst (λ n. IsBoundsStep kept None n 0 xs ys wx wy) z.0 (subst (λ n. IsBoundsStep kept None i n xs ys wx wy) z.1 (subst (λ o. IsBoundsStep kept o i j xs ys wx wy) is s)))

pub bounds_step_of_symmetric : (kept : List (ℕ × ℕ)) (bound : Option ℕ) (i j : ℕ) (xs ys wx wy : List (ℕ × ℕ)) → bound ≡ None → (i ≡ 0) × (j ≡ 0) → IsSymmetricStep kept xs ys wx wy → IsBoundsStep kept bound i j xs ys wx wy
bounds_step_of_symmetric kept bound i j xs ys wx wy is z d =
    subst (λ o. IsBoundsStep kept o i j xs ys wx wy) (sym is)
    (subst (λ n. IsBoundsStep kept None i n xs ys wx wy) (sym z.1) (subst (λ n. IsBoundsStep kept None n 0 xs ys wx wy) (sym z.0) (common_of kept xs ys wx wy d)))

pub can_first : (kept xs ys wx wy : List (ℕ × ℕ)) → IsSymmetricStep kept xs ys wx wy → CanAppend xs kept
can_first kept xs ys wx wy d = record { normal = d.first_normal; built = d.normal; after = EndsBelow-more (min (next_of xs) (next_of ys)) (next_of xs) kept d.below (omega arith) }

-- ---- a block of each list

ascending_front : (xs ys : List ℕ) (low : ℕ) → AreAscendingBounds low (xs ++ ys) → AreAscendingBounds low xs
ascending_front [] ys low r = tt
ascending_front (x ∷ xs) ys low r = (r.0, r.1, ascending_front xs ys (x + 1) r.2)

pub take_rest : (l : List (ℕ × ℕ)) (n : ℕ) → take (length l - n) (drop n l) ≡ drop n l
take_rest l n = take_all (length l - n) (drop n l) (omega (arith, length-drop n l))

drop_none : (n : ℕ) (none : List ℕ) → none ≡ [] → drop n none ≡ []
drop_none zero none is = is
drop_none (suc n) none is = ap (drop (suc n)) is

bounds_drop : (rs : List (ℕ × ℕ)) (n : ℕ) → bounds_of (drop n rs) ≡ drop (2 * n) (bounds_of rs)
bounds_drop rs zero = refl
bounds_drop [] (suc n) = sym (drop_none (2 * suc n) [] refl)
bounds_drop (r ∷ rs) (suc n) =
    let twice : 2 * suc n ≡ suc (suc (2 * n)) = omega arith in
    bounds_drop rs n ∙ sym (ap (λ k. drop k (bounds_of (r ∷ rs))) twice)

-- the first ranges of a list, and the ranges after them
pub front_of : (xs ranges front tail : List (ℕ × ℕ)) (i : ℕ) → ranges ++ tail ≡ xs → front ≡ take (length front) ranges → 0 < length front → i ≤ 1
    → drop i (bounds_of xs) ≡ drop i (bounds_of front) ++ bounds_of (drop (length front) ranges ++ tail)
front_of xs ranges front tail i is part some most =
    let parts : xs ≡ front ++ (drop (length front) ranges ++ tail) =
    sym is ∙ ap (λ l. l ++ tail) (sym (take-append-drop (length front) ranges)) ∙ append_assoc (take (length front) ranges) (drop (length front) ranges) tail
    ∙ ap (λ l. l ++ (drop (length front) ranges ++ tail)) (sym part) in
    ap (λ l. drop i (bounds_of l)) parts ∙ ap (drop i) (bounds-append front (drop (length front) ranges ++ tail))
    ∙ drop-append-le i (bounds_of front) (bounds_of (drop (length front) ranges ++ tail)) (omega (arith, bound_count front))

-- the rest of them
pub rest_of_front : (ranges front tail : List (ℕ × ℕ)) (f : ℕ) → front ≡ take (length front) ranges → f ≤ 2 * length front
    → drop (f % 2) (bounds_of (drop (f / 2) ranges ++ tail)) ≡ drop f (bounds_of front) ++ bounds_of (drop (length front) ranges ++ tail)
rest_of_front ranges front tail f part within =
    let n = f / 2 in
    let later = drop (length front) ranges in
    let ranges_are : ranges ≡ front ++ later = sym (take-append-drop (length front) ranges) ∙ ap (λ l. l ++ later) (sym part) in
    let dropped : drop n ranges ≡ drop n front ++ later = ap (drop n) ranges_are ∙ drop-append-le n front later (omega arith) in
    let parts : drop n ranges ++ tail ≡ drop n front ++ (later ++ tail) = ap (λ l. l ++ tail) dropped ∙ append_assoc (drop n front) later tail in
    let bounds : bounds_of (drop n ranges ++ tail) ≡ drop (2 * n) (bounds_of front) ++ bounds_of (later ++ tail) =
    ap bounds_of parts ∙ bounds-append (drop n front) (later ++ tail) ∙ ap (λ l. l ++ bounds_of (later ++ tail)) (bounds_drop front n) in
    let left : f % 2 ≤ length (drop (2 * n) (bounds_of front)) = omega (arith, length-drop (2 * n) (bounds_of front), bound_count front) in
    let all : 2 * n + f % 2 ≡ f = omega arith in
    ap (drop (f % 2)) bounds ∙ drop-append-le (f % 2) (drop (2 * n) (bounds_of front)) (bounds_of (later ++ tail)) left
    ∙ ap (λ l. l ++ bounds_of (later ++ tail)) (drop-drop (f % 2) (2 * n) (bounds_of front) ∙ ap (λ k. drop k (bounds_of front)) all)

pub normal_next : (xs ranges tail : List (ℕ × ℕ)) (n : ℕ) → ranges ++ tail ≡ xs → IsNormal xs → IsNormal (drop n ranges ++ tail)
normal_next xs ranges tail n is normal =
    IsNormal-suffix (take n ranges) (drop n ranges ++ tail)
    (subst IsNormal (sym (sym (append_assoc (take n ranges) (drop n ranges) tail) ∙ ap (λ l. l ++ tail) (take-append-drop n ranges) ∙ is)) normal)

-- the effect of the loop on the bounds of two blocks, for any bounds after them
abbrev pub Crosses : Option ℕ → ℕ → ℕ → ℕ → ℕ → List (ℕ × ℕ) → List (ℕ × ℕ) → List ℕ → Type 0
Crosses bound i j f g xs ys written = (kept tail_xs tail_ys : List ℕ) (whole_xs whole_ys : List (ℕ × ℕ))
    → AreBounds (kept ++ open_of bound) (drop i (bounds_of xs) ++ tail_xs) (drop j (bounds_of ys) ++ tail_ys) whole_xs whole_ys
    → AreBounds (kept ++ written) (drop f (bounds_of xs) ++ tail_xs) (drop g (bounds_of ys) ++ tail_ys) whole_xs whole_ys

-- a list whose next block has some ranges at its front
pub record HasFront (xs ranges front tail : List (ℕ × ℕ)) : Type 0 where
  pub parts : ranges ++ tail ≡ xs
  pub leads : front ≡ take (length front) ranges
  pub some : 0 < length front

within_front : {xs ranges front tail : List (ℕ × ℕ)} → HasFront xs ranges front tail → length front ≤ length ranges
within_front {ranges = ranges} {front = front} h = omega (arith, ap length h.leads, length-take (length front) ranges)

open_most : (bound : Option ℕ) → length (open_of bound) ≤ 1
open_most None = omega arith
open_most (Some b) = omega arith

pub kernel_crossing : (kept : List (ℕ × ℕ)) (bound : Option ℕ) (i j f g : ℕ) (xs ys rx ry fx fy bx by wx wy : List (ℕ × ℕ)) (written : List ℕ)
    → IsBoundsStep kept bound i j xs ys wx wy → HasFront xs rx fx bx → HasFront ys ry fy by → Crosses bound i j f g fx fy written
    → AreBounds (bounds_of kept ++ written) (drop f (bounds_of fx) ++ bounds_of (drop (length fx) rx ++ bx)) (drop g (bounds_of fy) ++ bounds_of (drop (length fy) ry ++ by)) wx wy
kernel_crossing kept bound i j f g xs ys rx ry fx fy bx by wx wy written s hx hy on =
    on (bounds_of kept) (bounds_of (drop (length fx) rx ++ bx)) (bounds_of (drop (length fy) ry ++ by)) wx wy
    (subst (λ l. AreBounds (bounds_of kept ++ open_of bound) l (drop j (bounds_of fy) ++ bounds_of (drop (length fy) ry ++ by)) wx wy) (front_of xs rx fx bx i hx.parts hx.leads hx.some (omega (arith, s.one, open_most bound)))
    (subst (λ l. AreBounds (bounds_of kept ++ open_of bound) (drop i (bounds_of xs)) l wx wy) (front_of ys ry fy by j hy.parts hy.leads hy.some (omega (arith, s.one, open_most bound))) s.symmetric_bounds))

pub kernel_bounds_ascend : (kept : List (ℕ × ℕ)) (xs ys written : List ℕ) (wx wy : List (ℕ × ℕ)) → AreBounds (bounds_of kept ++ written) xs ys wx wy → AreAscendingBounds 0 (bounds_of kept ++ written)
kernel_bounds_ascend kept xs ys written wx wy s = ascending_front (bounds_of kept ++ written) xs 0 s.first

-- the numbers of bounds that were passed and kept
bound_parity : (f g written n a b k k' o : ℕ) → (f ≡ 2 * a) ⊎ (g ≡ 2 * b) → f + g ≡ written + 2 * n → o ≤ 1 → 2 * k' + o ≡ 2 * k + written → (o ≡ f % 2 + g % 2) × (f % 2 + g % 2 ≤ 1)
bound_parity f g written n a b k k' o (inl first) even most total = (omega arith, omega arith)
bound_parity f g written n a b k k' o (inr second) even most total = (omega arith, omega arith)

pub crossed_next : (kept kept' : List (ℕ × ℕ)) (bound bound' : Option ℕ) (i j f g n : ℕ) (xs ys xs' ys' rx ry fx fy bx by wx wy : List (ℕ × ℕ)) (written : List ℕ)
    → IsBoundsStep kept bound i j xs ys wx wy → HasFront xs rx fx bx → HasFront ys ry fy by → Crosses bound i j f g fx fy written
    → (f ≡ 2 * length fx) ⊎ (g ≡ 2 * length fy) → f ≤ 2 * length fx → g ≤ 2 * length fy → f + g ≡ length written + 2 * n
    → bounds_of kept' ++ open_of bound' ≡ bounds_of kept ++ written → xs' ≡ drop (f / 2) rx ++ bx → ys' ≡ drop (g / 2) ry ++ by
    → IsBoundsStep kept' bound' (f % 2) (g % 2) xs' ys' wx wy
crossed_next kept kept' bound bound' i j f g n xs ys xs' ys' rx ry fx fy bx by wx wy written s hx hy on ended fits_x fits_y even is ex ey =
    let symmetric_bounds = kernel_crossing kept bound i j f g xs ys rx ry fx fy bx by wx wy written s hx hy on in
    let rest_x : drop f (bounds_of fx) ++ bounds_of (drop (length fx) rx ++ bx) ≡ drop (f % 2) (bounds_of xs') = sym (rest_of_front rx fx bx f hx.leads fits_x) ∙ ap (λ l. drop (f % 2) (bounds_of l)) (sym ex) in
    let rest_y : drop g (bounds_of fy) ++ bounds_of (drop (length fy) ry ++ by) ≡ drop (g % 2) (bounds_of ys') = sym (rest_of_front ry fy by g hy.leads fits_y) ∙ ap (λ l. drop (g % 2) (bounds_of l)) (sym ey) in
    let total : 2 * length kept' + length (open_of bound') ≡ 2 * length kept + length written =
    omega (arith, ap length is, length-append (bounds_of kept') (open_of bound'), length-append (bounds_of kept) written, bound_count kept, bound_count kept') in
    let odd = bound_parity f g (length written) n (length fx) (length fy) (length kept) (length kept') (length (open_of bound')) ended even (open_most bound') total in
    record {
      symmetric_bounds = subst (λ l. AreBounds l (drop (f % 2) (bounds_of xs')) (drop (g % 2) (bounds_of ys')) wx wy) (sym is)
          (subst (λ l. AreBounds (bounds_of kept ++ written) l (drop (g % 2) (bounds_of ys')) wx wy) rest_x
          (subst (λ l. AreBounds (bounds_of kept ++ written) (drop f (bounds_of fx) ++ bounds_of (drop (length fx) rx ++ bx)) l wx wy) rest_y symmetric_bounds));
      one = odd.0;
      first_some = omega (arith, ap length ex, length-append (drop (f / 2) rx) bx, length-drop (f / 2) rx, within_front hx, fits_x);
      second_some = omega (arith, ap length ey, length-append (drop (g / 2) ry) by, length-drop (g / 2) ry, within_front hy, fits_y);
      first_normal = subst IsNormal (sym ex) (normal_next xs rx bx (f / 2) hx.parts s.first_normal);
      second_normal = subst IsNormal (sym ey) (normal_next ys ry by (g / 2) hy.parts s.second_normal);
    }

-- ---- the rest at the end

restored_one : (kept : List (ℕ × ℕ)) (k : ℕ) (a b : Option (ℕ × ℕ)) (xs ys wx wy : List (ℕ × ℕ)) → IsBoundsStep kept (Some k) 1 0 (from_current a xs) (from_current b ys) wx wy → IsSymmetricStep kept (from_current (restored_range a 1 (Some k)) xs) (from_current (restored_range b 0 (Some k)) ys) wx wy
restored_one kept k None b xs ys wx wy s = absurd (omega (arith, s.first_some))
restored_one kept k (Some x) None xs ys wx wy s = restored_first kept k x xs [] wx wy s
restored_one kept k (Some x) (Some y) xs ys wx wy s = restored_first kept k x xs (y ∷ ys) wx wy s

restored_without_bound : (a : Option (ℕ × ℕ)) (i : ℕ) → restored_range a i None ≡ a
restored_without_bound None i = refl
restored_without_bound (Some x) i = refl

pub restored_is_current : (kept : List (ℕ × ℕ)) (bound : Option ℕ) (i j : ℕ) (a b : Option (ℕ × ℕ)) (xs ys wx wy : List (ℕ × ℕ)) → IsBoundsStep kept bound i j (from_current a xs) (from_current b ys) wx wy → IsSymmetricStep kept (from_current (restored_range a i bound) xs) (from_current (restored_range b j bound) ys) wx wy
restored_is_current kept None i j a b xs ys wx wy s =
    subst (λ o. IsSymmetricStep kept (from_current o xs) (from_current (restored_range b j None) ys) wx wy) (sym (restored_without_bound a i))
    (subst (λ o. IsSymmetricStep kept (from_current a xs) (from_current o ys) wx wy) (sym (restored_without_bound b j)) (symmetric_of_bounds_step kept None i j (from_current a xs) (from_current b ys) wx wy refl s))
restored_is_current kept (Some k) i j a b xs ys wx wy s = elim (cases_lt i 1) [
  | inl lt ↦
      let zero_i : i ≡ 0 = omega arith in
      let one_j : j ≡ 1 = omega (arith, s.one) in
      let at = subst (λ n. IsBoundsStep kept (Some k) n 1 (from_current a xs) (from_current b ys) wx wy) zero_i (subst (λ n. IsBoundsStep kept (Some k) i n (from_current a xs) (from_current b ys) wx wy) one_j s) in
      let d = differing_swap _ _ _ _ _ (restored_one kept k b a ys xs wy wx (crossed_swap _ _ _ _ _ _ _ _ at)) in
      subst (λ n. IsSymmetricStep kept (from_current (restored_range a n (Some k)) xs) (from_current (restored_range b j (Some k)) ys) wx wy) (sym zero_i)
      (subst (λ n. IsSymmetricStep kept (from_current (restored_range a 0 (Some k)) xs) (from_current (restored_range b n (Some k)) ys) wx wy) (sym one_j) d)
  | inr ge ↦
      let one_i : i ≡ 1 = omega (arith, s.one) in
      let zero_j : j ≡ 0 = omega (arith, s.one) in
      let at = subst (λ n. IsBoundsStep kept (Some k) n 0 (from_current a xs) (from_current b ys) wx wy) one_i (subst (λ n. IsBoundsStep kept (Some k) i n (from_current a xs) (from_current b ys) wx wy) zero_j s) in
      let d = restored_one kept k a b xs ys wx wy at in
      subst (λ n. IsSymmetricStep kept (from_current (restored_range a n (Some k)) xs) (from_current (restored_range b j (Some k)) ys) wx wy) (sym one_i)
      (subst (λ n. IsSymmetricStep kept (from_current (restored_range a 1 (Some k)) xs) (from_current (restored_range b n (Some k)) ys) wx wy) (sym zero_j) d)
]

-- if the first list has another range, the second has none
pub none_second : (a b : Option (ℕ × ℕ)) (i j : ℕ) (bound : Option ℕ) (x : ℕ × ℕ) (xs ys : List (ℕ × ℕ)) → (from_current a xs ≡ []) ⊎ (from_current b ys ≡ []) → restored_range a i bound ≡ Some x → restored_range b j bound ≡ None
none_second None b i j bound x xs ys ended is = absurd (none_some is)
  where
    none_some : restored_range None i bound ≡ Some x → ⊥
    none_some is = grind arith
none_second (Some r) None i j bound x xs ys ended is = refl
none_second (Some r) (Some s) i j bound x xs ys (inl none) is = absurd (omega (arith, ap length none))
none_second (Some r) (Some s) i j bound x xs ys (inr none) is = absurd (omega (arith, ap length none))

pub ended_restored_ranges : (kept : List (ℕ × ℕ)) (bound : Option ℕ) (i j : ℕ) (a b first second : Option (ℕ × ℕ)) (xs xs' ys ys' wx wy : List (ℕ × ℕ)) → from_current a xs' ≡ xs → from_current b ys' ≡ ys → first ≡ restored_range a i bound → second ≡ restored_range b j bound
    → IsBoundsStep kept bound i j xs ys wx wy → IsSymmetricStep kept (from_current first xs') (from_current second ys') wx wy
ended_restored_ranges kept bound i j a b first second xs xs' ys ys' wx wy ex ey e f s =
    let at = subst (λ l. IsBoundsStep kept bound i j l (from_current b ys') wx wy) (sym ex) (subst (λ l. IsBoundsStep kept bound i j xs l wx wy) (sym ey) s) in
    subst (λ o. IsSymmetricStep kept (from_current o xs') (from_current second ys') wx wy) (sym e)
    (subst (λ o. IsSymmetricStep kept (from_current (restored_range a i bound) xs') (from_current o ys') wx wy) (sym f) (restored_is_current kept bound i j a b xs' ys' wx wy at))

pub ended_from_current : (a b : Option (ℕ × ℕ)) (xs xs' ys ys' : List (ℕ × ℕ)) → from_current a xs' ≡ xs → from_current b ys' ≡ ys → (xs ≡ []) ⊎ (ys ≡ []) → (from_current a xs' ≡ []) ⊎ (from_current b ys' ≡ [])
ended_from_current a b xs xs' ys ys' ex ey (inl none) = inl (ex ∙ none)
ended_from_current a b xs xs' ys ys' ex ey (inr none) = inr (ey ∙ none)
