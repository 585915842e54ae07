-- A list of blocks with one range inserted.
use Rattle.std.proofs.Common.{◌≡◌, ℕ, ◌+◌, ◌-◌, ◌<◌, ◌≤◌, Bool, true, false, ◌||◌, ◌&&◌, inl, inr, List, [], ◌∷◌}
use Rattle.std.proofs.Common.{length, get_or, refl, sym, ap, subst, ◌∙◌, arith}
use Rattle.std.specs.Prelude.{nat_le, nat_lt, not, Option, Some, MatchOption}
use Rattle.std.specs.FinSet as set
use Rattle.std.specs.Cmp.{nat_cmp_total}
use Rattle.std.specs.Ordering.{nat_cmp}
use Rattle.std.proofs.lemmas.Bool.{cases_Bool, false≢true}
use Rattle.std.proofs.lemmas.Bool.Decides.{nat_tests}
use Rattle.moc_blocks.specs.RangeList.{IsNormal, set_of, NumberSet, numbers}
use Rattle.moc_blocks.specs.Lemmas.Members.{in_range, in_ranges, contains-set_of, contains-numbers, same_members}
use Rattle.moc_blocks.specs.Lemmas.Sizes.{len_parts}
use Rattle.moc_blocks.specs.Private.Blocks.{width_of}
use Rattle.moc_blocks.specs.Private.Edits.{AddsRange}
use Rattle.moc_ranges.proofs.Views.{range_view}
use Rattle.moc_operations.proofs.Walking.{and_swap}
use Rattle.moc_blocks.proofs.Editing.{width_after_insertion}

-- ---- sets

pub set_is_union : (from to added : ℕ) (old new : List (ℕ × ℕ)) → AddsRange from to old new added → set_of new ≡ set.union (set_of old) (numbers from to)
set_is_union from to added old new g = same_members _ _ (λ q.
    contains-set_of new q ∙ g.same q ∙ (λ i. sym (contains-set_of old q) i || sym (contains-numbers from to q) i)
    ∙ sym (set.contains-union nat_cmp_total (set_of old) (numbers from to) q))

pub added_count_is_new : (from to added : ℕ) (old new : List (ℕ × ℕ)) → IsNormal old → IsNormal new → AddsRange from to old new added → added ≡ set.len (set.difference (numbers from to) (set_of old))
added_count_is_new from to added old new normal normal' g = omega (arith, width_after_insertion from to old new normal normal' g.same, g.more)

or_with_implied : (o n : Bool) → (n ≡ true → o ≡ true) → (o || n) ≡ o
or_with_implied true n say = refl
or_with_implied false true say = sym (say refl)
or_with_implied false false say = refl

new_not : (o n : Bool) → (n ≡ true → o ≡ true) → (n && not o) ≡ false
new_not true true say = refl
new_not true false say = refl
new_not false true say = sym (say refl)
new_not false false say = refl

pub union_with_contained : (a b : NumberSet) → ((q : ℕ) → set.contains b q ≡ true → set.contains a q ≡ true) → set.union a b ≡ a
union_with_contained a b all = same_members _ _ (λ q. set.contains-union nat_cmp_total a b q ∙ or_with_implied (set.contains a q) (set.contains b q) (all q))

pub contained_adds_nothing : (a b : NumberSet) → ((q : ℕ) → set.contains b q ≡ true → set.contains a q ≡ true) → set.len (set.difference b a) ≡ 0
contained_adds_nothing a b all =
    let none : set.difference b a ≡ set.empty = same_members _ _ (λ q. set.contains-difference nat_cmp_total b a q ∙ new_not (set.contains a q) (set.contains b q) (all q) ∙ sym (set.contains-empty nat_cmp q)) in
    ap set.len none ∙ set.len-empty nat_cmp

pub reversed_range_is_empty : (from to q : ℕ) → to ≤ from → (nat_le from q && nat_lt q to) ≡ false
reversed_range_is_empty from to q le = grind (arith, nat_tests)

pub no_numbers : (from to : ℕ) (a : NumberSet) → to ≤ from → (q : ℕ) → set.contains (numbers from to) q ≡ true → set.contains a q ≡ true
no_numbers from to a le q has = absurd (false≢true (sym (contains-numbers from to q ∙ reversed_range_is_empty from to q le) ∙ has))

pub new_count : (a b : NumberSet) (n m k : ℕ) → n ≡ set.len b → m ≡ set.len (set.intersection a b) → k ≡ n - m → k ≡ set.len (set.difference b a)
new_count a b n m k is_n is_m is_k =
    let swapped : set.intersection a b ≡ set.intersection b a = same_members _ _ (λ q. set.contains-intersection nat_cmp_total a b q ∙ and_swap (set.contains a q) (set.contains b q) ∙ sym (set.contains-intersection nat_cmp_total b a q)) in
    omega (arith, len_parts b a, ap set.len swapped, is_n, is_m, is_k)

pub common_count_at_most_second : (a b : NumberSet) → set.len (set.intersection a b) ≤ set.len b
common_count_at_most_second a b =
    let swapped : set.intersection a b ≡ set.intersection b a = same_members _ _ (λ q. set.contains-intersection nat_cmp_total a b q ∙ and_swap (set.contains a q) (set.contains b q) ∙ sym (set.contains-intersection nat_cmp_total b a q)) in
    omega (arith, len_parts b a, ap set.len swapped)

-- if no number of b is new, a contains b
pub none_new : (a b : NumberSet) → set.len (set.difference b a) ≡ 0 → (q : ℕ) → set.contains b q ≡ true → set.contains a q ≡ true
none_new a b none q has = elim (cases_Bool (set.contains a q)) [
  | inl there ↦ there
  | inr lacks ↦
      let here : set.contains (set.difference b a) q ≡ true = set.contains-difference nat_cmp_total b a q ∙ (λ i. has i && not (lacks i)) in
      absurd (false≢true (sym (ap (λ s. set.contains s q) (set.empty_of_len (set.difference b a) none) ∙ set.contains-empty nat_cmp q) ∙ here))
]

pub union_width : (from to : ℕ) (old new : List (ℕ × ℕ)) (a : NumberSet) → set_of old ≡ a → IsNormal old → IsNormal new → set_of new ≡ set.union a (numbers from to) → width_of new ≡ width_of old + set.len (set.difference (numbers from to) a)
union_width from to old new a is normal normal' union =
    let same : (q : ℕ) → in_ranges new q ≡ (in_ranges old q || in_range (from, to) q) = λ q.
    sym (contains-set_of new q) ∙ ap (λ s. set.contains s q) union ∙ set.contains-union nat_cmp_total a (numbers from to) q
    ∙ (λ i. set.contains (sym is i) q || contains-numbers from to q i) ∙ ap (λ b. b || in_range (from, to) q) (contains-set_of old q) in
    subst (λ (s : NumberSet). width_of new ≡ width_of old + set.len (set.difference (numbers from to) s)) is (width_after_insertion from to old new normal normal' same)

pub match_some : {X : Type 0} (P : X → Type 0) (Q : Type 0) (o : Option X) (x : X) → o ≡ Some x → MatchOption o Q P → P x
match_some {X} P Q o x is holds = subst (λ (p : Option X). MatchOption p Q P) is holds

one_item : (xs : List (ℕ × ℕ)) → 1 ≤ length xs → length xs < 2 → xs ≡ get_or xs 0 (0, 0) ∷ []
one_item [] some slice = absurd (omega arith)
one_item (x ∷ []) some slice = refl
one_item (x ∷ (y ∷ ys)) some slice = absurd (omega arith)

-- the set of a single range
pub only_range : (xs slice : List (ℕ × ℕ)) (a : NumberSet) → set_of xs ≡ a → slice ≡ xs → 1 ≤ length slice → length slice < 2 → a ≡ numbers (get_or slice 0 (0, 0)).0 (get_or slice 0 (0, 0)).1
only_range xs slice a is same some short = sym is ∙ ap set_of (sym same ∙ one_item slice some short) ∙ range_view (get_or slice 0 (0, 0)).0 (get_or slice 0 (0, 0)).1
