-- Comparisons of two lists of ranges: the effect of one step on what they have in common.
use Rattle.std.proofs.Common.{◌≡◌, ℕ, ◌+◌, ◌-◌, ◌<◌, ◌≤◌, Bool, true, false, ◌&&◌, ◌||◌, List, [], ◌∷◌, ◌++◌, min, max}
use Rattle.std.proofs.Common.{refl, sym, ap, subst, ◌∙◌, arith, inl, inr, Option, None, Some, MatchOption}
use Rattle.std.specs.Prelude.{nat_le, nat_lt}
use Rattle.std.specs.FinSet as set
use Rattle.std.specs.Ordering.{nat_cmp}
use Rattle.std.specs.Cmp.{nat_cmp_total}
use Rattle.std.proofs.lemmas.Bool.{cases_lt, false_from_ne_true, or_cases, or_left, or_right, false≢true, lt-ltb}
use Rattle.std.proofs.lemmas.Bool.Decides.{nat_tests}
use Rattle.moc_blocks.specs.RangeList.{NumberSet, numbers, pixel_count, IsNormal, BeginsAfter, set_of}
use Rattle.moc_blocks.specs.Lemmas.Members.{contains-numbers, same_members, in_range, in_ranges, contains-set_of}
use Rattle.moc_blocks.specs.Lemmas.Sizes.{len_parts}
use Rattle.moc_blocks.specs.Lemmas.Ranges.{len_bounded, later_only, len-more}
use Rattle.moc_operations.specs.Private.Walks.{common_of, contains_all, from_current}
use Rattle.moc_operations.specs.Lemmas.Members.{same_truth}
use Rattle.moc_blocks.specs.Private.Walks.{overlap_of, EndsBy, Advances}
use Rattle.moc_blocks.proofs.Blocking.{IsNormal-suffix}
use Rattle.moc_blocks.proofs.Passing.{ends_by_more, overlap_none}

contains_both : (xs ys : List (ℕ × ℕ)) (q : ℕ) → set.contains (set.intersection (set_of xs) (set_of ys)) q ≡ (in_ranges xs q && in_ranges ys q)
contains_both xs ys q = set.contains-intersection nat_cmp_total (set_of xs) (set_of ys) q ∙ (λ i. contains-set_of xs q i && contains-set_of ys q i)

-- the numbers of the range (a, b) that are in (c, d) or in a later range
inside_piece : (a b c d from n q : ℕ) (later more : Bool) → b ≤ d → from ≡ max a c → n ≡ min b d - max a c → q < b → more ≡ false → (((nat_le a q && nat_lt q b) || later) && ((nat_le c q && nat_lt q d) || more)) ≡ ((nat_le from q && nat_lt q (from + n)) || (later && ((nat_le c q && nat_lt q d) || more)))
inside_piece a b c d from n q later more ends f w lt none = grind (arith, nat_tests)

outside_piece : (a b c d from n q : ℕ) (later more : Bool) → b ≤ d → from ≡ max a c → n ≡ min b d - max a c → b ≤ q → (((nat_le a q && nat_lt q b) || later) && ((nat_le c q && nat_lt q d) || more)) ≡ ((nat_le from q && nat_lt q (from + n)) || (later && ((nat_le c q && nat_lt q d) || more)))
outside_piece a b c d from n q later more ends f w ge = grind (arith, nat_tests)

below_end : (b d from n q : ℕ) → b ≤ d → n ≡ min b d - from → from ≤ q → q < from + n → q < b
below_end b d from n q ends w low high = omega arith

-- the range that ends first has the same numbers in common with the other list as with the other list's first range
pub common_step : (x y : ℕ × ℕ) (xs ys : List (ℕ × ℕ)) → IsNormal (x ∷ xs) → IsNormal (y ∷ ys) → x.1 ≤ y.1 → common_of (x ∷ xs) (y ∷ ys) ≡ (min x.1 y.1 - max x.0 y.0) + common_of xs (y ∷ ys)
common_step x y xs ys nx ny ends =
    let from : ℕ = max x.0 y.0 in
    let n : ℕ = min x.1 y.1 - max x.0 y.0 in
    let rest : NumberSet = set.intersection (set_of xs) (set_of (y ∷ ys)) in
    let same : set.intersection (set_of (x ∷ xs)) (set_of (y ∷ ys)) ≡ set.union (numbers from (from + n)) rest = same_members _ _ (λ q.
    contains_both (x ∷ xs) (y ∷ ys) q
    ∙ elim (cases_lt q x.1) [
      | inl lt ↦ inside_piece x.0 x.1 y.0 y.1 from n q (in_ranges xs q) (in_ranges ys q) ends refl refl lt (later_only y.1 q ys ny.3 ny.2 (omega arith))
      | inr ge ↦ outside_piece x.0 x.1 y.0 y.1 from n q (in_ranges xs q) (in_ranges ys q) ends refl refl ge
    ]
    ∙ (λ i. sym (contains-numbers from (from + n) q) i || sym (contains_both xs (y ∷ ys) q) i)
    ∙ sym (set.contains-union nat_cmp_total (numbers from (from + n)) rest q)) in
    ap set.len same
    ∙ len-more from n rest (λ q low high. contains_both xs (y ∷ ys) q ∙ ap (λ b. b && in_ranges (y ∷ ys) q) (later_only x.1 q xs nx.3 nx.2 (omega (arith, below_end x.1 y.1 from n q ends refl low high))))

pub and_swap : (a b : Bool) → (a && b) ≡ (b && a)
and_swap true true = refl
and_swap true false = refl
and_swap false true = refl
and_swap false false = refl

common_swap : (xs ys : List (ℕ × ℕ)) → common_of xs ys ≡ common_of ys xs
common_swap xs ys = ap set.len (same_members _ _ (λ q. contains_both xs ys q ∙ and_swap (in_ranges xs q) (in_ranges ys q) ∙ sym (contains_both ys xs q)))

pub common_step_back : (x y : ℕ × ℕ) (xs ys : List (ℕ × ℕ)) → IsNormal (x ∷ xs) → IsNormal (y ∷ ys) → y.1 ≤ x.1 → common_of (x ∷ xs) (y ∷ ys) ≡ (min x.1 y.1 - max x.0 y.0) + common_of (x ∷ xs) ys
common_step_back x y xs ys nx ny ends =
    let width : min y.1 x.1 - max y.0 x.0 ≡ min x.1 y.1 - max x.0 y.0 = omega arith in
    common_swap (x ∷ xs) (y ∷ ys) ∙ common_step y x ys xs ny nx ends ∙ (λ i. width i + common_swap ys (x ∷ xs) i)

common_of_empty : (ys : List (ℕ × ℕ)) → common_of [] ys ≡ 0
common_of_empty ys = ap set.len (same_members _ set.empty (λ q. contains_both [] ys q ∙ sym (set.contains-empty nat_cmp q))) ∙ set.len-empty nat_cmp

pub common_none : (xs ys : List (ℕ × ℕ)) → xs ≡ [] → common_of xs ys ≡ 0
common_none xs ys e = ap (λ (l : List (ℕ × ℕ)). common_of l ys) e ∙ common_of_empty ys

pub common_none_back : (xs ys : List (ℕ × ℕ)) → ys ≡ [] → common_of xs ys ≡ 0
common_none_back xs ys e = common_swap xs ys ∙ common_none ys xs e

pub common_bounded : (xs ys : List (ℕ × ℕ)) → IsNormal xs → common_of xs ys ≤ pixel_count
common_bounded xs ys normal = omega (arith, len_parts (set_of xs) (set_of ys), len_bounded xs normal)

-- the invariant of a count
pub record IsCounting (total : ℕ) (xs ys whole_xs whole_ys : List (ℕ × ℕ)) : Type 0 where
  pub first_normal : IsNormal xs
  pub second_normal : IsNormal ys
  pub sum : total + common_of xs ys ≡ common_of whole_xs whole_ys

-- the invariant of a comparison
pub record IsHolding (xs ys whole_xs whole_ys : List (ℕ × ℕ)) : Type 0 where
  pub first_normal : IsNormal xs
  pub second_normal : IsNormal ys
  pub same : contains_all xs ys ≡ contains_all whole_xs whole_ys

-- two lists are equal if their rests are
pub record AreSameFrom (xs ys whole_xs whole_ys : List (ℕ × ℕ)) : Type 0 where
  pub there : whole_xs ≡ whole_ys → xs ≡ ys
  pub back : xs ≡ ys → whole_xs ≡ whole_ys

-- a call of `next` returned r, and t is the rest of s
abbrev pub Steps : List (ℕ × ℕ) → Option (ℕ × ℕ) → List (ℕ × ℕ) → Type 0
Steps s r t = MatchOption r ((s ≡ []) × (t ≡ [])) (λ x. s ≡ x ∷ t)

pub from_current_of_steps : (s : List (ℕ × ℕ)) (r : Option (ℕ × ℕ)) (t : List (ℕ × ℕ)) → Steps s r t → from_current r t ≡ s
from_current_of_steps s None t e = sym e.0
from_current_of_steps s (Some x) t e = sym e

pub at_both : (f s : Option (ℕ × ℕ)) (x y : ℕ × ℕ) (xs ys : List (ℕ × ℕ)) (P : List (ℕ × ℕ) → List (ℕ × ℕ) → Type 0) → f ≡ Some x → s ≡ Some y → P (from_current f xs) (from_current s ys) → P (x ∷ xs) (y ∷ ys)
at_both f s x y xs ys P e g p =
    subst (λ (o : Option (ℕ × ℕ)). P (from_current o xs) (y ∷ ys)) e (subst (λ (o : Option (ℕ × ℕ)). P (from_current f xs) (from_current o ys)) g p)

-- the ranges that were passed have the same numbers in common with the other list as with its first range
common_after_skip : (y : ℕ × ℕ) (removed rest ys : List (ℕ × ℕ)) → IsNormal (removed ++ rest) → IsNormal (y ∷ ys) → EndsBy y.1 removed → common_of (removed ++ rest) (y ∷ ys) ≡ overlap_of y removed + common_of rest (y ∷ ys)
common_after_skip y [] rest ys nx ny e = omega arith
common_after_skip y (x ∷ removed) rest ys nx ny e =
    omega (arith, common_step x y (removed ++ rest) ys nx ny e.0, common_after_skip y removed rest ys nx.3 ny e.1)

-- the rest after an advance is normal
pub advanced_normal : (range : ℕ × ℕ) (xs t : List (ℕ × ℕ)) (r : Option (ℕ × ℕ)) (c : ℕ) → IsNormal xs → Advances range xs t r c → IsNormal (from_current r t)
advanced_normal range xs t r c normal a = subst IsNormal (sym (from_current_of_steps a.rest r t a.step)) (IsNormal-suffix a.passed.removed a.rest (subst IsNormal a.passed.parts normal))

common_advanced : (y : ℕ × ℕ) (xs t ys : List (ℕ × ℕ)) (r : Option (ℕ × ℕ)) (c : ℕ) → IsNormal xs → IsNormal (y ∷ ys) → Advances y xs t r c → common_of xs (y ∷ ys) ≡ c + common_of (from_current r t) (y ∷ ys)
common_advanced y xs t ys r c nx ny a =
    let n = subst IsNormal a.passed.parts nx in
    let passed = common_after_skip y a.passed.removed a.rest ys n ny a.passed.ended in
    let parts = ap (λ (l : List (ℕ × ℕ)). common_of l (y ∷ ys)) a.passed.parts in
    let left = ap (λ (l : List (ℕ × ℕ)). common_of l (y ∷ ys)) (from_current_of_steps a.rest r t a.step) in
    omega (arith, passed, parts, left, a.passed.counted)

pub counting_first : (total w c : ℕ) (x y : ℕ × ℕ) (xs ys t whole_xs whole_ys : List (ℕ × ℕ)) (r : Option (ℕ × ℕ)) → IsCounting total (x ∷ xs) (y ∷ ys) whole_xs whole_ys → w ≡ min x.1 y.1 - max x.0 y.0 → x.1 ≤ y.1 → Advances y xs t r c → IsCounting (total + w + c) (from_current r t) (y ∷ ys) whole_xs whole_ys
counting_first total w c x y xs ys t whole_xs whole_ys r s is le a = record {
  first_normal = advanced_normal y xs t r c s.first_normal.3 a;
  second_normal = s.second_normal;
  sum = omega (arith, common_step x y xs ys s.first_normal s.second_normal le, common_advanced y xs t ys r c s.first_normal.3 s.second_normal a, s.sum, is);
}

counting_swap : (total : ℕ) (xs ys whole_xs whole_ys : List (ℕ × ℕ)) → IsCounting total xs ys whole_xs whole_ys → IsCounting total ys xs whole_ys whole_xs
counting_swap total xs ys whole_xs whole_ys s = record {
  first_normal = s.second_normal;
  second_normal = s.first_normal;
  sum = ap (λ n. total + n) (common_swap ys xs) ∙ s.sum ∙ common_swap whole_xs whole_ys;
}

pub counting_second : (total w c : ℕ) (x y : ℕ × ℕ) (xs ys t whole_xs whole_ys : List (ℕ × ℕ)) (r : Option (ℕ × ℕ)) → IsCounting total (x ∷ xs) (y ∷ ys) whole_xs whole_ys → w ≡ min x.1 y.1 - max x.0 y.0 → y.1 ≤ x.1 → Advances x ys t r c → IsCounting (total + w + c) (x ∷ xs) (from_current r t) whole_xs whole_ys
counting_second total w c x y xs ys t whole_xs whole_ys r s is le a =
    counting_swap _ _ _ _ _ (counting_first total w c y x ys xs t whole_ys whole_xs r (counting_swap _ _ _ _ _ s) (omega (arith, is)) le a)

pub counted_within : (total : ℕ) (xs ys whole_xs whole_ys : List (ℕ × ℕ)) → IsCounting total xs ys whole_xs whole_ys → total ≤ common_of whole_xs whole_ys
counted_within total xs ys whole_xs whole_ys s = omega (arith, s.sum)

-- ranges that end at or before the start of a range have no number of it
pub advances_after_position : (y : ℕ × ℕ) (xs t : List (ℕ × ℕ)) (r : Option (ℕ × ℕ)) (n : ℕ) → y.0 ≤ y.1 → Advances (y.0, y.0) xs t r n → Advances y xs t r 0
advances_after_position y xs t r n le a = record {
  rest = a.rest;
  passed = record {
    removed = a.passed.removed;
    parts = a.passed.parts;
    ended = ends_by_more y.0 y.1 a.passed.removed le a.passed.ended;
    counted = overlap_none y a.passed.removed a.passed.ended;
  };
  step = a.step;
}

-- the numbers that two first ranges have in common are counted at most once
pub common_count_bounded : (total w : ℕ) (x y : ℕ × ℕ) (xs ys whole_xs whole_ys : List (ℕ × ℕ)) → IsCounting total (x ∷ xs) (y ∷ ys) whole_xs whole_ys → w ≡ min x.1 y.1 - max x.0 y.0 → total + w ≤ common_of whole_xs whole_ys
common_count_bounded total w x y xs ys whole_xs whole_ys s is = elim (cases_lt y.1 x.1) [
  | inl lt ↦ omega (arith, common_step_back x y xs ys s.first_normal s.second_normal (omega arith), s.sum, is)
  | inr ge ↦ omega (arith, common_step x y xs ys s.first_normal s.second_normal ge, s.sum, is)
]

pub counted_first : (total : ℕ) (xs ys whole_xs whole_ys : List (ℕ × ℕ)) (f : Option (ℕ × ℕ)) → IsCounting total (from_current f xs) ys whole_xs whole_ys → f ≡ None → total ≡ common_of whole_xs whole_ys
counted_first total xs ys whole_xs whole_ys f s none =
    let e : from_current f xs ≡ [] = ap (λ o. from_current o xs) none in
    omega (arith, common_none (from_current f xs) ys e, s.sum)

pub counted_second : (total : ℕ) (xs ys whole_xs whole_ys : List (ℕ × ℕ)) (f : Option (ℕ × ℕ)) → IsCounting total xs (from_current f ys) whole_xs whole_ys → f ≡ None → total ≡ common_of whole_xs whole_ys
counted_second total xs ys whole_xs whole_ys f s none =
    let e : from_current f ys ≡ [] = ap (λ o. from_current o ys) none in
    omega (arith, common_none_back xs (from_current f ys) e, s.sum)

-- ---- one list contains another

in_second_if_contained : (xs ys : List (ℕ × ℕ)) → contains_all xs ys ≡ true → (q : ℕ) → in_ranges ys q ≡ true → in_ranges xs q ≡ true
in_second_if_contained xs ys all q has = sym (contains-set_of xs q) ∙ set.is_subset-contains nat_cmp_total (set_of ys) (set_of xs) all q (contains-set_of ys q ∙ has)

contains_all_by_membership : (xs ys : List (ℕ × ℕ)) → ((q : ℕ) → in_ranges ys q ≡ true → in_ranges xs q ≡ true) → contains_all xs ys ≡ true
contains_all_by_membership xs ys each = set.contains-is_subset nat_cmp_total (set_of ys) (set_of xs) (λ q has. contains-set_of xs q ∙ each q (sym (contains-set_of ys q) ∙ has))

later : (x : ℕ × ℕ) (xs : List (ℕ × ℕ)) (q : ℕ) → in_ranges xs q ≡ true → in_ranges (x ∷ xs) q ≡ true
later x xs q has = or_right (in_range x q) (in_ranges xs q) has

-- a range that ends before the other list's first contains none of its numbers
contains_after_first : (x y : ℕ × ℕ) (xs ys : List (ℕ × ℕ)) → IsNormal (x ∷ xs) → IsNormal (y ∷ ys) → x.1 < y.1 → ((q : ℕ) → in_ranges (y ∷ ys) q ≡ true → in_ranges (x ∷ xs) q ≡ true) → (q : ℕ) → in_ranges (y ∷ ys) q ≡ true → in_ranges xs q ≡ true
contains_after_first x y xs ys nx ny lt all q has = elim (cases_lt q x.1) [
  | inl early ↦
      let none = later_only y.1 q ys ny.3 ny.2 (omega arith) in
      let from : y.0 ≤ q = grind (arith, nat_tests) in
      let end : in_ranges (y ∷ ys) x.1 ≡ true = grind (arith, nat_tests) in
      let out = later_only x.1 x.1 xs nx.3 nx.2 (omega arith) in
      let no : in_ranges (x ∷ xs) x.1 ≡ false = grind (arith, nat_tests) in
      let yes = all x.1 end in
      absurd (cc)
  | inr ge ↦ let here = all q has in grind (arith, nat_tests)
]

contains_all_skip_first : (x y : ℕ × ℕ) (xs ys : List (ℕ × ℕ)) → IsNormal (x ∷ xs) → IsNormal (y ∷ ys) → x.1 < y.1 → contains_all (x ∷ xs) (y ∷ ys) ≡ contains_all xs (y ∷ ys)
contains_all_skip_first x y xs ys nx ny lt = same_truth _ _
    (λ all. contains_all_by_membership xs (y ∷ ys) (contains_after_first x y xs ys nx ny lt (in_second_if_contained (x ∷ xs) (y ∷ ys) all)))
    (λ all. contains_all_by_membership (x ∷ xs) (y ∷ ys) (λ q has. later x xs q (in_second_if_contained xs (y ∷ ys) all q has)))

contained_after_first : (x y : ℕ × ℕ) (xs ys : List (ℕ × ℕ)) (q : ℕ) → y.1 ≤ x.1 → x.0 ≤ y.0 → (in_ranges ys q ≡ true → in_ranges (x ∷ xs) q ≡ true) → in_ranges (y ∷ ys) q ≡ true → in_ranges (x ∷ xs) q ≡ true
contained_after_first x y xs ys q ends begins rest has = elim (or_cases (in_range y q) (in_ranges ys q) has) [
  | inl here ↦ let in_x : in_range x q ≡ true = grind (arith, nat_tests) in or_left (in_range x q) (in_ranges xs q) in_x
  | inr more ↦ rest more
]

contains_all_take_first : (x y : ℕ × ℕ) (xs ys : List (ℕ × ℕ)) → y.1 ≤ x.1 → x.0 ≤ y.0 → contains_all (x ∷ xs) (y ∷ ys) ≡ contains_all (x ∷ xs) ys
contains_all_take_first x y xs ys ends begins = same_truth _ _
    (λ all. contains_all_by_membership (x ∷ xs) ys (λ q has. in_second_if_contained (x ∷ xs) (y ∷ ys) all q (later y ys q has)))
    (λ all. contains_all_by_membership (x ∷ xs) (y ∷ ys) (λ q has. contained_after_first x y xs ys q ends begins (in_second_if_contained (x ∷ xs) ys all q) has))

first_in : (y : ℕ × ℕ) (ys : List (ℕ × ℕ)) → y.0 < y.1 → in_ranges (y ∷ ys) y.0 ≡ true
first_in y ys lt = grind (arith, nat_tests)

not_before_first : (x : ℕ × ℕ) (xs : List (ℕ × ℕ)) (q : ℕ) → IsNormal (x ∷ xs) → q < x.0 → in_ranges (x ∷ xs) q ≡ false
not_before_first x xs q normal lt = let none = later_only x.1 q xs normal.3 normal.2 (omega arith) in grind (arith, nat_tests)

contains_all_false : (x y : ℕ × ℕ) (xs ys : List (ℕ × ℕ)) → IsNormal (x ∷ xs) → IsNormal (y ∷ ys) → y.0 < x.0 → contains_all (x ∷ xs) (y ∷ ys) ≡ false
contains_all_false x y xs ys nx ny lt = false_from_ne_true (contains_all (x ∷ xs) (y ∷ ys)) (λ all.
    let yes = in_second_if_contained (x ∷ xs) (y ∷ ys) all y.0 (first_in y ys ny.0) in
    let no = not_before_first x xs y.0 nx lt in
    false≢true (sym no ∙ yes))

empty_contains_no_range : (y : ℕ × ℕ) (ys : List (ℕ × ℕ)) → IsNormal (y ∷ ys) → contains_all [] (y ∷ ys) ≡ false
empty_contains_no_range y ys ny = false_from_ne_true (contains_all [] (y ∷ ys)) (λ all. false≢true (in_second_if_contained [] (y ∷ ys) all y.0 (first_in y ys ny.0)))

contains_all_skip_prefix : (y : ℕ × ℕ) (removed rest ys : List (ℕ × ℕ)) → IsNormal (removed ++ rest) → IsNormal (y ∷ ys) → EndsBy y.0 removed → contains_all (removed ++ rest) (y ∷ ys) ≡ contains_all rest (y ∷ ys)
contains_all_skip_prefix y [] rest ys nx ny e = refl
contains_all_skip_prefix y (x ∷ removed) rest ys nx ny e =
    contains_all_skip_first x y (removed ++ rest) ys nx ny (omega (arith, e.0, ny.0)) ∙ contains_all_skip_prefix y removed rest ys nx.3 ny e.1

contains_all_take_prefix : (x : ℕ × ℕ) (b : ℕ) (xs removed rest : List (ℕ × ℕ)) → IsNormal (removed ++ rest) → BeginsAfter b (removed ++ rest) → x.0 ≤ b → EndsBy x.1 removed → contains_all (x ∷ xs) (removed ++ rest) ≡ contains_all (x ∷ xs) rest
contains_all_take_prefix x b xs [] rest normal after le e = refl
contains_all_take_prefix x b xs (y ∷ removed) rest normal after le e =
    contains_all_take_first x y xs (removed ++ rest) e.0 (omega arith)
    ∙ contains_all_take_prefix x y.1 xs removed rest normal.3 normal.2 (omega (arith, normal.0)) e.1

pub contains_all_after_skip : (n : ℕ) (x y : ℕ × ℕ) (xs ys t whole_xs whole_ys : List (ℕ × ℕ)) (r : Option (ℕ × ℕ)) → IsHolding (x ∷ xs) (y ∷ ys) whole_xs whole_ys → x.1 < y.1 → Advances (y.0, y.0) xs t r n → IsHolding (from_current r t) (y ∷ ys) whole_xs whole_ys
contains_all_after_skip n x y xs ys t whole_xs whole_ys r s lt a =
    let nx = s.first_normal.3 in
    record {
      first_normal = advanced_normal (y.0, y.0) xs t r n nx a;
      second_normal = s.second_normal;
      same = ap (λ (l : List (ℕ × ℕ)). contains_all l (y ∷ ys)) (from_current_of_steps a.rest r t a.step)
          ∙ sym (contains_all_skip_prefix y a.passed.removed a.rest ys (subst IsNormal a.passed.parts nx) s.second_normal a.passed.ended)
          ∙ ap (λ (l : List (ℕ × ℕ)). contains_all l (y ∷ ys)) (sym a.passed.parts)
          ∙ sym (contains_all_skip_first x y xs ys s.first_normal s.second_normal lt) ∙ s.same;
    }

pub contains_all_after_take : (n : ℕ) (x y : ℕ × ℕ) (xs ys t whole_xs whole_ys : List (ℕ × ℕ)) (r : Option (ℕ × ℕ)) → IsHolding (x ∷ xs) (y ∷ ys) whole_xs whole_ys → y.1 ≤ x.1 → x.0 ≤ y.0 → Advances (x.1, x.1) ys t r n → IsHolding (x ∷ xs) (from_current r t) whole_xs whole_ys
contains_all_after_take n x y xs ys t whole_xs whole_ys r s ends begins a =
    let ny = s.second_normal.3 in
    let after : BeginsAfter y.1 (a.passed.removed ++ a.rest) = subst (BeginsAfter y.1) a.passed.parts s.second_normal.2 in
    record {
      first_normal = s.first_normal;
      second_normal = advanced_normal (x.1, x.1) ys t r n ny a;
      same = ap (λ (l : List (ℕ × ℕ)). contains_all (x ∷ xs) l) (from_current_of_steps a.rest r t a.step)
          ∙ sym (contains_all_take_prefix x y.1 xs a.passed.removed a.rest (subst IsNormal a.passed.parts ny) after (omega (arith, begins, s.second_normal.0)) a.passed.ended)
          ∙ ap (λ (l : List (ℕ × ℕ)). contains_all (x ∷ xs) l) (sym a.passed.parts)
          ∙ sym (contains_all_take_first x y xs ys ends begins) ∙ s.same;
    }

pub contains_all_fails_at_first : (x y : ℕ × ℕ) (xs ys whole_xs whole_ys : List (ℕ × ℕ)) → IsHolding (x ∷ xs) (y ∷ ys) whole_xs whole_ys → y.0 < x.0 → false ≡ contains_all whole_xs whole_ys
contains_all_fails_at_first x y xs ys whole_xs whole_ys s lt = sym (contains_all_false x y xs ys s.first_normal s.second_normal lt) ∙ s.same

pub contains_all_fails_at_end : (f s : Option (ℕ × ℕ)) (y : ℕ × ℕ) (xs ys whole_xs whole_ys : List (ℕ × ℕ)) → IsHolding (from_current f xs) (from_current s ys) whole_xs whole_ys → f ≡ None → s ≡ Some y → false ≡ contains_all whole_xs whole_ys
contains_all_fails_at_end f s y xs ys whole_xs whole_ys h none is =
    let normal : IsNormal (y ∷ ys) = subst (λ (o : Option (ℕ × ℕ)). IsNormal (from_current o ys)) is h.second_normal in
    sym (empty_contains_no_range y ys normal) ∙ (λ i. contains_all (from_current (sym none i) xs) (from_current (sym is i) ys)) ∙ h.same

pub contains_all_at_end : (f s : Option (ℕ × ℕ)) (xs ys whole_xs whole_ys : List (ℕ × ℕ)) → IsHolding (from_current f xs) (from_current s ys) whole_xs whole_ys → s ≡ None → true ≡ contains_all whole_xs whole_ys
contains_all_at_end f s xs ys whole_xs whole_ys h none =
    sym (contains_all_by_membership (from_current f xs) [] (λ q has. absurd (false≢true has))) ∙ (λ i. contains_all (from_current f xs) (from_current (sym none i) ys)) ∙ h.same

-- ---- the same ranges

pub shares_some : (w : ℕ) (x y : ℕ × ℕ) (xs ys whole_xs whole_ys : List (ℕ × ℕ)) → IsCounting 0 (x ∷ xs) (y ∷ ys) whole_xs whole_ys → w ≡ min x.1 y.1 - max x.0 y.0 → 0 < w → true ≡ nat_lt 0 (common_of whole_xs whole_ys)
shares_some w x y xs ys whole_xs whole_ys s is some = sym (lt-ltb 0 (common_of whole_xs whole_ys) (omega (arith, common_count_bounded 0 w x y xs ys whole_xs whole_ys s is)))

pub shares_none : (n : ℕ) → 0 ≡ n → false ≡ nat_lt 0 n
shares_none n e = ap (λ m. nat_lt 0 m) e

-- a range that ends at or before the start of the other has nothing in common with it
pub sharing_first : (n : ℕ) (x y : ℕ × ℕ) (xs ys t whole_xs whole_ys : List (ℕ × ℕ)) (r : Option (ℕ × ℕ)) → IsCounting 0 (x ∷ xs) (y ∷ ys) whole_xs whole_ys → x.1 ≤ y.0 → Advances (y.0, y.0) xs t r n → IsCounting 0 (from_current r t) (y ∷ ys) whole_xs whole_ys
sharing_first n x y xs ys t whole_xs whole_ys r s le a =
    let filled = s.second_normal.0 in
    counting_first 0 0 0 x y xs ys t whole_xs whole_ys r s (omega arith) (omega arith) (advances_after_position y xs t r n (omega arith) a)

pub sharing_second : (n : ℕ) (x y : ℕ × ℕ) (xs ys t whole_xs whole_ys : List (ℕ × ℕ)) (r : Option (ℕ × ℕ)) → IsCounting 0 (x ∷ xs) (y ∷ ys) whole_xs whole_ys → y.1 ≤ x.0 → Advances (x.0, x.0) ys t r n → IsCounting 0 (x ∷ xs) (from_current r t) whole_xs whole_ys
sharing_second n x y xs ys t whole_xs whole_ys r s le a =
    let filled = s.first_normal.0 in
    counting_second 0 0 0 x y xs ys t whole_xs whole_ys r s (omega arith) (omega arith) (advances_after_position x ys t r n (omega arith) a)

pub common_is_positive : (x y : ℕ × ℕ) (xs ys whole_xs whole_ys : List (ℕ × ℕ)) → IsCounting 0 (x ∷ xs) (y ∷ ys) whole_xs whole_ys → y.0 < x.1 → x.0 < y.1 → true ≡ nat_lt 0 (common_of whole_xs whole_ys)
common_is_positive x y xs ys whole_xs whole_ys s lt gt =
    let first = s.first_normal.0 in
    let second = s.second_normal.0 in
    shares_some (min x.1 y.1 - max x.0 y.0) x y xs ys whole_xs whole_ys s refl (omega arith)
