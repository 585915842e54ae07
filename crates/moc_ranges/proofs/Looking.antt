-- The results of searches in a set.
use Rattle.std.proofs.Common.{◌≡◌, ℕ, ◌+◌, ◌<◌, ◌≤◌, ◌*◌, ◌/◌, Bool, true, false, not, ◌&&◌, ◌||◌, ◌⊎◌, List, [], ◌∷◌}
use Rattle.std.proofs.Common.{◌++◌, nat_eq, nat_le, nat_lt, max, Option, None, Some, MatchOption, inl, inr, refl, sym}
use Rattle.std.proofs.Common.{ap, subst, ◌-◌, ◌∙◌, arith}
use Rattle.std.proofs.lemmas.List.Sums.{sum_by-cons}
use Rattle.std.proofs.lemmas.Bool.{cases_lt, cases_Bool, false≢true, false_from_ne_true, and_parts, leb-true, ltb-true}
use Rattle.std.proofs.lemmas.Bool.{lt-ltb}
use Rattle.std.proofs.lemmas.Bool.Decides.{nat_tests}
use Rattle.std.specs.Option.{is_some}
use Rattle.std.specs.Prelude.{IsTrue}
use Rattle.std.specs.FinSet as set
use Rattle.std.specs.Ordering.{nat_cmp}
use Rattle.std.specs.Cmp.{nat_cmp_total}
use Rattle.moc_blocks.specs.RangeList.{NumberSet, numbers, pixel_count, IsNormal, set_of}
use Rattle.moc_blocks.specs.Lemmas.Members.{contains-numbers, same_members, in_ranges, contains-set_of, in_ranges-append, and_false}
use Rattle.moc_ranges.specs.Lemmas.Members.{meets-some, meets-none, contains-part_of, contains-pixels}
use Rattle.moc_ranges.specs.Operations.{base_pixel_size, pixels, meets, part_of}
use Rattle.moc_blocks.specs.Private.Walks.{EndsBy, IsFirstAfter}
use Rattle.moc_blocks.specs.Lemmas.Ranges.{later_only, len-set_of}
use Rattle.moc_ranges.specs.Private.Walks.{IsNextRange, IsEmptyFrom}
use Rattle.moc_ranges.specs.Lemmas.Ranges.{at_end}
use Rattle.moc_blocks.proofs.Blocking.{IsNormal-suffix}
use Rattle.moc_blocks.proofs.Basics.{none_after_limit}
use Rattle.moc_ranges.proofs.Views.{and_no, none_in_part, in_base, range_view}
use Rattle.moc_ranges.proofs.Adding.{reversed_range_is_empty}

-- the ranges that a search has skipped
pub record IsSearching (limit : ℕ) (rest whole : List (ℕ × ℕ)) : Type 0 where
  pub removed : List (ℕ × ℕ)
  pub parts : whole ≡ removed ++ rest
  pub ended : EndsBy limit removed
  pub normal : IsNormal whole

left_in : (limit q : ℕ) (rest whole : List (ℕ × ℕ)) → IsSearching limit rest whole → limit ≤ q → in_ranges whole q ≡ in_ranges rest q
left_in limit q rest whole i le =
    ap (λ (l : List (ℕ × ℕ)). in_ranges l q) i.parts ∙ in_ranges-append i.removed rest q
    ∙ ap (λ b. b || in_ranges rest q) (none_after_limit limit q i.removed i.ended le)

pub search_none : (limit : ℕ) (whole : List (ℕ × ℕ)) → EndsBy limit whole → IsEmptyFrom limit (set_of whole)
search_none limit whole ended = record { none = λ q le. contains-set_of whole q ∙ none_after_limit limit q whole ended le }

first_has : (range : ℕ × ℕ) (rest : List (ℕ × ℕ)) (q : ℕ) → IsNormal (range ∷ rest) → q < range.1 → in_ranges (range ∷ rest) q ≡ nat_le range.0 q
first_has range rest q normal lt = let later = later_only range.1 q rest normal.3 normal.2 (omega arith) in grind (arith, nat_tests)

search_some : (limit : ℕ) (range : ℕ × ℕ) (s rest whole : List (ℕ × ℕ)) → IsSearching limit s whole → s ≡ range ∷ rest → limit < range.1 → IsNextRange limit (set_of whole) range
search_some limit range s rest whole i e lt =
    let left : IsNormal (range ∷ rest) = subst IsNormal e (IsNormal-suffix i.removed s (subst IsNormal i.parts i.normal)) in
    record {
      past = lt;
      filled = left.0;
      within = left.1;
      has = λ q low high. contains-set_of whole q ∙ left_in limit q s whole i low ∙ ap (λ (l : List (ℕ × ℕ)). in_ranges l q) e ∙ first_has range rest q left high;
      ends = contains-set_of whole range.1 ∙ left_in limit range.1 s whole i (omega arith) ∙ ap (λ (l : List (ℕ × ℕ)). in_ranges l range.1) e ∙ at_end range rest left;
    }

-- the first range that ends after the limit, of a normal list
pub first_after_is_next_range : (limit : ℕ) (range : ℕ × ℕ) (whole : List (ℕ × ℕ)) → IsNormal whole → IsFirstAfter limit (range ∷ []) whole → IsNextRange limit (set_of whole) range
first_after_is_next_range limit range whole normal f =
    search_some limit range (range ∷ f.later) f.later whole (record { removed = f.removed; parts = f.parts; ended = f.ended; normal = normal }) refl f.past

-- the same for the set of a list
pub search_set : (limit : ℕ) (range : Option (ℕ × ℕ)) (found whole : List (ℕ × ℕ)) (a : NumberSet) → set_of whole ≡ a → IsNormal whole → whole ≡ found → MatchOption range (EndsBy limit found) (λ (r : ℕ × ℕ). IsFirstAfter limit (r ∷ []) found) → MatchOption range (IsEmptyFrom limit a) (IsNextRange limit a)
search_set limit None found whole a is normal e f = subst (IsEmptyFrom limit) is (search_none limit whole (subst (EndsBy limit) (sym e) f))
search_set limit (Some r) found whole a is normal e f = subst (λ (s : NumberSet). IsNextRange limit s r) is (first_after_is_next_range limit r whole normal (subst (λ (l : List (ℕ × ℕ)). IsFirstAfter limit (r ∷ []) l) (sym e) f))

-- ---- the next range, in terms of the set

next_has : (limit q : ℕ) (a : NumberSet) (range : ℕ × ℕ) → IsNextRange limit a range → limit ≤ q → range.0 ≤ q → q < range.1 → set.contains a q ≡ true
next_has limit q a range n low from to = n.has q low to ∙ grind (arith, nat_tests)

not_in_gap : (limit q : ℕ) (a : NumberSet) (range : ℕ × ℕ) → IsNextRange limit a range → limit ≤ q → q < range.0 → set.contains a q ≡ false
not_in_gap limit q a range n low lt = n.has q low (omega (arith, n.filled)) ∙ grind (arith, nat_tests)

in_numbers : (from to q : ℕ) → from ≤ q → q < to → set.contains (numbers from to) q ≡ true
in_numbers from to q low high = contains-numbers from to q ∙ grind (arith, nat_tests)

from_numbers : (from to q : ℕ) → set.contains (numbers from to) q ≡ true → (from ≤ q) × (q < to)
from_numbers from to q has =
    let parts = and_parts (nat_le from q) (nat_lt q to) (sym (contains-numbers from to q) ∙ has) in
    (leb-true from q parts.0, ltb-true q to parts.1)

meets_no : (a : NumberSet) (from to : ℕ) → ((q : ℕ) → from ≤ q → q < to → set.contains a q ≡ false) → meets a (numbers from to) ≡ false
meets_no a from to none = meets-none a (numbers from to) (λ q. elim (cases_Bool (set.contains (numbers from to) q)) [
  | inl here ↦ let parts = from_numbers from to q here in ap (λ b. b && set.contains (numbers from to) q) (none q parts.0 parts.1)
  | inr out ↦ ap (λ b. set.contains a q && b) out ∙ and_false (set.contains a q)
])

pub meets_next : (a : NumberSet) (from to : ℕ) (range : ℕ × ℕ) → IsNextRange from a range → from < to → meets a (numbers from to) ≡ nat_lt range.0 to
meets_next a from to range n ascending = elim (cases_lt range.0 to) [
  | inl lt ↦
      let q : ℕ = max from range.0 in
      let filled = n.filled in
      let past = n.past in
      meets-some a (numbers from to) q (next_has from q a range n (omega arith) (omega arith) (omega arith)) (in_numbers from to q (omega arith) (omega arith)) ∙ sym (lt-ltb range.0 to lt)
  | inr ge ↦ meets_no a from to (λ q low high. not_in_gap from q a range n low (omega arith)) ∙ grind (arith, nat_tests)
]

pub meets_none_left : (a : NumberSet) (from to : ℕ) → IsEmptyFrom from a → meets a (numbers from to) ≡ false
meets_none_left a from to n = meets_no a from to (λ q low high. n.none q low)

pub covers_next : (a : NumberSet) (from to : ℕ) (range : ℕ × ℕ) → IsNextRange from a range → from < to → set.is_subset (numbers from to) a ≡ (nat_le range.0 from && nat_le to range.1)
covers_next a from to range n ascending = elim (cases_lt from range.0) [
  | inl before ↦
      false_from_ne_true _ (λ all. false≢true (sym (not_in_gap from from a range n (omega arith) before) ∙ set.is_subset-contains nat_cmp_total (numbers from to) a all from (in_numbers from to from (omega arith) ascending)))
      ∙ grind (arith, nat_tests)
  | inr begun ↦ elim (cases_lt range.1 to) [
    | inl short ↦
        let past = n.past in
        false_from_ne_true _ (λ all. false≢true (sym n.ends ∙ set.is_subset-contains nat_cmp_total (numbers from to) a all range.1 (in_numbers from to range.1 (omega arith) short)))
        ∙ grind (arith, nat_tests)
    | inr whole ↦
        set.contains-is_subset nat_cmp_total (numbers from to) a (λ q here. let parts = from_numbers from to q here in next_has from q a range n parts.0 (omega (arith, parts.0)) (omega (arith, parts.1)))
        ∙ grind (arith, nat_tests)
  ]
]

pub covers_none_left : (a : NumberSet) (from to : ℕ) → IsEmptyFrom from a → from < to → set.is_subset (numbers from to) a ≡ false
covers_none_left a from to n ascending =
    false_from_ne_true _ (λ all. false≢true (sym (n.none from (omega arith)) ∙ set.is_subset-contains nat_cmp_total (numbers from to) a all from (in_numbers from to from (omega arith) ascending)))

-- ---- base pixels

-- a set has a pixel in a base pixel if it meets the numbers of this base pixel
pub meets_base : (a : NumberSet) (b : ℕ) → meets a (numbers (b * base_pixel_size) (b * base_pixel_size + base_pixel_size)) ≡ nat_lt 0 (set.len (part_of a b))
unfolding meets
meets_base a b = ap (λ c. nat_lt 0 (set.len c)) (same_members _ _ (λ q.
    set.contains-intersection nat_cmp_total a (numbers (b * base_pixel_size) (b * base_pixel_size + base_pixel_size)) q
    ∙ ap (λ t. set.contains a q && t) (contains-numbers _ _ q ∙ sym (in_base b q)) ∙ sym (contains-part_of a b q)))

below_twelve : (b q : ℕ) → b < 12 → (nat_lt q pixel_count && (nat_le (b * base_pixel_size) q && nat_lt q (b * base_pixel_size + base_pixel_size))) ≡ (nat_le (b * base_pixel_size) q && nat_lt q (b * base_pixel_size + base_pixel_size))
below_twelve b q l = grind (arith, nat_tests)

-- the pixels of a base pixel
pub base_members : (b q : ℕ) → b < 12 → set.contains (part_of pixels b) q ≡ set.contains (numbers (b * base_pixel_size) (b * base_pixel_size + base_pixel_size)) q
base_members b q l = contains-part_of pixels b q ∙ (λ i. contains-pixels q i && in_base b q i) ∙ below_twelve b q l ∙ sym (contains-numbers (b * base_pixel_size) (b * base_pixel_size + base_pixel_size) q)

same_part : (b : ℕ) → nat_eq b b ≡ true
same_part b = grind (arith, nat_tests)

-- a pixel of a set is in a part that is not empty
pub some_in_part : (a : NumberSet) (p : ℕ) → set.contains a p ≡ true → nat_lt 0 (set.len (part_of a (p / base_pixel_size))) ≡ true
some_in_part a p has = elim (cases_lt 0 (set.len (part_of a (p / base_pixel_size)))) [
  | inl lt ↦ lt-ltb 0 _ lt
  | inr none ↦
      let here : set.contains (part_of a (p / base_pixel_size)) p ≡ true = contains-part_of a (p / base_pixel_size) p ∙ ap (λ t. t && nat_eq (p / base_pixel_size) (p / base_pixel_size)) has ∙ same_part (p / base_pixel_size) in
      absurd (false≢true (sym (ap (λ s. set.contains s p) (set.empty_of_len (part_of a (p / base_pixel_size)) (omega arith)) ∙ set.contains-empty nat_cmp p) ∙ here))
]

unequal_numbers : (m n : ℕ) → (m < n) ⊎ (n < m) → nat_eq m n ≡ false
unequal_numbers m n cases = elim cases [ inl lt ↦ grind (arith, nat_tests) | inr gt ↦ grind (arith, nat_tests) ]

-- the part of the first pixel from a base pixel on is the first part that is not empty
pub first_part : (a : NumberSet) (low p b : ℕ) → ((q : ℕ) → low * base_pixel_size ≤ q → set.contains a q ≡ true → p ≤ q) → low ≤ b → nat_lt 0 (set.len (part_of a b)) ≡ true → p / base_pixel_size ≤ b
first_part a low p b first le some = elim (cases_lt b (p / base_pixel_size)) [
  | inl lt ↦
      let none : part_of a b ≡ set.empty = same_members _ _ (λ q. contains-part_of a b q
      ∙ and_no (set.contains a q) (nat_eq (q / base_pixel_size) b) (λ has. elim (cases_lt q (low * base_pixel_size)) [
        | inl before ↦ unequal_numbers (q / base_pixel_size) b (inl (omega arith))
        | inr from ↦ let later = first q from has in unequal_numbers (q / base_pixel_size) b (inr (omega arith))
      ])
      ∙ sym (set.contains-empty nat_cmp q)) in
      absurd (false≢true (none_in_part a b none ∙ some))
  | inr ge ↦ ge
]

-- all parts from a base pixel on are empty without such a pixel
pub no_parts : (a : NumberSet) (low b : ℕ) → ((q : ℕ) → low * base_pixel_size ≤ q → set.contains a q ≡ true → ⊥) → low ≤ b → nat_lt 0 (set.len (part_of a b)) ≡ true → ⊥
no_parts a low b first le some =
    let p : ℕ = (b + 1) * base_pixel_size in
    let past : p / base_pixel_size ≤ b = first_part a low p b (λ q from has. absurd (first q from has)) le some in
    omega arith

pub set_of_no_ranges : (rs : List (ℕ × ℕ)) (a : NumberSet) → set_of rs ≡ a → rs ≡ [] → a ≡ set.empty
set_of_no_ranges rs a is none = sym is ∙ same_members _ _ (λ q. contains-set_of rs q ∙ ap (λ (l : List (ℕ × ℕ)). in_ranges l q) none ∙ sym (set.contains-empty nat_cmp q))

starts_in : (range : ℕ × ℕ) (rest : List (ℕ × ℕ)) → range.0 < range.1 → in_ranges (range ∷ rest) range.0 ≡ true
starts_in range rest lt = grind (arith, nat_tests)

pub nonempty_set_of_ranges : (range : ℕ × ℕ) (rs rest : List (ℕ × ℕ)) (a : NumberSet) → set_of rs ≡ a → IsNormal rs → rs ≡ range ∷ rest → a ≡ set.empty → ⊥
nonempty_set_of_ranges range rs rest a is normal e none =
    let left : IsNormal (range ∷ rest) = subst IsNormal e normal in
    let here = contains-set_of rs range.0 ∙ ap (λ (l : List (ℕ × ℕ)). in_ranges l range.0) e ∙ starts_in range rest left.0 in
    false≢true (sym (ap (λ s. set.contains s range.0) (is ∙ none) ∙ set.contains-empty nat_cmp range.0) ∙ here)

pub empty_seen : (r : Option (ℕ × ℕ)) (b : Bool) (s t : List (ℕ × ℕ)) (a : NumberSet) → set_of s ≡ a → IsNormal s → MatchOption r ((s ≡ []) × (t ≡ [])) (λ x. s ≡ x ∷ t) → is_some r ≡ not b → (IsTrue b → a ≡ set.empty) × (a ≡ set.empty → IsTrue b)
empty_seen None true s t a is normal e same = ((λ yes. set_of_no_ranges s a is e.0), (λ none. refl))
empty_seen None false s t a is normal e same = absurd (false≢true same)
empty_seen (Some x) true s t a is normal e same = absurd (false≢true (sym same))
empty_seen (Some x) false s t a is normal e same = ((λ yes. absurd (false≢true yes)), (λ none. absurd (nonempty_set_of_ranges x s t a is normal e none)))

in_common : (from to start q : ℕ) (has : Bool) → (from ≤ q → q < to → has ≡ nat_le start q) → (has && (nat_le from q && nat_lt q to)) ≡ (nat_le (max start from) q && nat_lt q to)
in_common from to start q has is = elim (cases_lt q from) [
  | inl below ↦ grind (arith, nat_tests)
  | inr begun ↦ elim (cases_lt q to) [
    | inl inside ↦ let same = is begun inside in grind (arith, nat_tests)
    | inr past ↦ grind (arith, nat_tests)
  ]
]

-- the pixels of a set in a range that ends where its next range does, or before
common_next : (a : NumberSet) (from to : ℕ) (range : ℕ × ℕ) → IsNextRange from a range → to ≤ range.1 → set.intersection a (numbers from to) ≡ numbers (max range.0 from) to
common_next a from to range n le = same_members _ _ (λ q.
    set.contains-intersection nat_cmp_total a (numbers from to) q ∙ ap (λ b. set.contains a q && b) (contains-numbers from to q)
    ∙ in_common from to range.0 q (set.contains a q) (λ low high. n.has q low (omega arith))
    ∙ sym (contains-numbers (max range.0 from) to q))

len-numbers : (from to : ℕ) → to ≤ pixel_count → set.len (numbers from to) ≡ to - from
len-numbers from to within = elim (cases_lt from to) [
  | inl lt ↦ ap set.len (sym (range_view from to)) ∙ len-set_of ((from, to) ∷ []) (lt, within, tt, tt) ∙ omega (arith, sum_by-cons (λ (range : ℕ × ℕ). range.1 - range.0) (from, to) [])
  | inr ge ↦
      let none : numbers from to ≡ set.empty = same_members _ _ (λ q. contains-numbers from to q ∙ reversed_range_is_empty from to q ge ∙ sym (set.contains-empty nat_cmp q)) in
      ap set.len none ∙ set.len-empty nat_cmp ∙ omega arith
]

pub common_count_next : (a : NumberSet) (from to : ℕ) (range : ℕ × ℕ) → IsNextRange from a range → to ≤ range.1 → set.len (set.intersection a (numbers from to)) ≡ to - max range.0 from
common_count_next a from to range n le = ap set.len (common_next a from to range n le) ∙ len-numbers (max range.0 from) to (omega (arith, n.within))

pub common_none_left : (a : NumberSet) (from to : ℕ) → IsEmptyFrom from a → set.len (set.intersection a (numbers from to)) ≡ 0
common_none_left a from to n =
    let none : set.intersection a (numbers from to) ≡ set.empty = same_members _ _ (λ q.
    set.contains-intersection nat_cmp_total a (numbers from to) q
    ∙ elim (cases_Bool (set.contains (numbers from to) q)) [
      | inl here ↦ ap (λ b. b && set.contains (numbers from to) q) (n.none q (from_numbers from to q here).0)
      | inr out ↦ ap (λ b. set.contains a q && b) out ∙ and_false (set.contains a q)
    ]
    ∙ sym (set.contains-empty nat_cmp q)) in
    ap set.len none ∙ set.len-empty nat_cmp
