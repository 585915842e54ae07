-- Operations on two slices of ranges, with a result that grows.
use Rattle.std.proofs.Common.{◌≡◌, ℕ, ◌<◌, ◌≤◌, Bool, true, false, not, ◌||◌, ◌&&◌, List, [], ◌∷◌, ◌++◌, min, max}
use Rattle.std.proofs.Common.{refl, sym, ap, subst, ◌∙◌, arith, inl, inr}
use Rattle.std.specs.Prelude.{nat_le, nat_lt}
use Rattle.std.proofs.lemmas.Bool.{cases_lt}
use Rattle.std.proofs.lemmas.Bool.Decides.{nat_tests}
use Rattle.moc_blocks.specs.RangeList.{pixel_count, IsNormal, BeginsAfter}
use Rattle.moc_blocks.specs.Lemmas.Members.{in_range, in_ranges, in_ranges-append, or_false, or_assoc, and_false}
use Rattle.moc_blocks.specs.Private.Blocks.{next_of}
use Rattle.moc_blocks.specs.Private.Built.{EndsBelow}
use Rattle.moc_operations.specs.Private.Slices.{IsAppendedOrMerged}
use Rattle.moc_blocks.proofs.Merging.{normal_append, ends_next, EndsBelow-append, EndsBelow-more}
use Rattle.moc_blocks.proofs.Building.{pushed_normal}
use Rattle.moc_operations.proofs.Walking.{and_swap}
use Rattle.moc_operations.proofs.InCommon.{common_of_ranges}
use Rattle.moc_operations.proofs.Lacking.{removed, difference_of_trimmed, difference_skip_second}

-- a range that ends before another was appended
pub appended_if_separate : (x y : ℕ × ℕ) (kept kept' : List (ℕ × ℕ)) → IsNormal kept → x.0 < x.1 → y.0 < y.1 → x.1 ≤ pixel_count → EndsBelow (min x.0 y.0) kept → x.1 < y.0 → kept' ≡ kept ++ x ∷ [] → IsAppendedOrMerged x y y kept kept'
appended_if_separate x y kept kept' normal filled other within after apart is =
    let first = EndsBelow-more (min x.0 y.0) x.0 kept after (omega arith) in
    subst (λ (k : List (ℕ × ℕ)). IsAppendedOrMerged x y y kept k) (sym is) (record {
      normal = pushed_normal kept x normal filled within first;
      end = refl;
      filled = other;
      below = λ f lt. EndsBelow-append (min f y.0) kept (x ∷ []) (EndsBelow-more x.0 (min f y.0) kept first (omega arith)) (omega arith, tt);
      same = λ q. ap (λ b. b || in_range y q) (in_ranges-append kept (x ∷ []) q ∙ ap (λ b. in_ranges kept q || b) (or_false (in_range x q)))
          ∙ or_assoc (in_ranges kept q) (in_range x q) (in_range y q);
    })

union_of_overlapping : (a b c d from q : ℕ) (k : Bool) → c ≤ b → b ≤ d → from ≡ min a c → (k || (nat_le from q && nat_lt q d)) ≡ (k || ((nat_le a q && nat_lt q b) || (nat_le c q && nat_lt q d)))
union_of_overlapping a b c d from q true lookahead ends is = refl
union_of_overlapping a b c d from q false lookahead ends is = grind (arith, nat_tests)

-- a range was merged into another that it touches
pub appended_or_merged : (x y : ℕ × ℕ) (from : ℕ) (kept : List (ℕ × ℕ)) → IsNormal kept → x.0 < x.1 → x.1 ≤ y.1 → EndsBelow (min x.0 y.0) kept → y.0 ≤ x.1 → from ≡ min x.0 y.0 → IsAppendedOrMerged x y (from, y.1) kept kept
appended_or_merged x y from kept normal filled ends after lookahead is = record {
  normal = normal;
  end = refl;
  filled = omega arith;
  below = λ f lt. EndsBelow-more (min x.0 y.0) (min f from) kept after (omega arith);
  same = λ q. union_of_overlapping x.0 x.1 y.0 y.1 from q (in_ranges kept q) lookahead ends is;
}

-- the invariant of a union of two slices
pub record IsUnionOfSlices (kept xs ys whole_xs whole_ys : List (ℕ × ℕ)) : Type 0 where
  pub normal : IsNormal kept
  pub first_normal : IsNormal xs
  pub second_normal : IsNormal ys
  pub below : EndsBelow (min (next_of xs) (next_of ys)) kept
  pub same : (q : ℕ) → (in_ranges kept q || (in_ranges xs q || in_ranges ys q)) ≡ (in_ranges whole_xs q || in_ranges whole_ys q)

pub union_slices_start : (kept xs ys whole_xs whole_ys : List (ℕ × ℕ)) → kept ≡ [] → whole_xs ≡ xs → whole_ys ≡ ys → IsNormal whole_xs → IsNormal whole_ys → IsUnionOfSlices kept xs ys whole_xs whole_ys
union_slices_start kept xs ys whole_xs whole_ys none ex ey nx ny = subst (λ (k : List (ℕ × ℕ)). IsUnionOfSlices k xs ys whole_xs whole_ys) (sym none) (record {
  normal = tt;
  first_normal = subst IsNormal ex nx;
  second_normal = subst IsNormal ey ny;
  below = tt;
  same = λ q. sym (λ i. in_ranges (ex i) q || in_ranges (ey i) q);
})

pub or_swap : (a b : Bool) → (a || b) ≡ (b || a)
or_swap true true = refl
or_swap true false = refl
or_swap false true = refl
or_swap false false = refl

pub union_slices_swap : (kept xs ys whole_xs whole_ys : List (ℕ × ℕ)) → IsUnionOfSlices kept xs ys whole_xs whole_ys → IsUnionOfSlices kept ys xs whole_ys whole_xs
union_slices_swap kept xs ys whole_xs whole_ys s = record {
  normal = s.normal;
  first_normal = s.second_normal;
  second_normal = s.first_normal;
  below = EndsBelow-more (min (next_of xs) (next_of ys)) (min (next_of ys) (next_of xs)) kept s.below (omega arith);
  same = λ q. ap (λ b. in_ranges kept q || b) (or_swap (in_ranges ys q) (in_ranges xs q)) ∙ s.same q ∙ or_swap (in_ranges whole_xs q) (in_ranges whole_ys q);
}

or_rotate : (k xs z ys : Bool) → (k || (xs || (z || ys))) ≡ ((k || z) || (xs || ys))
or_rotate true xs z ys = refl
or_rotate false true true ys = refl
or_rotate false true false ys = refl
or_rotate false false z ys = refl

or_interleave : (k x xs y ys : Bool) → ((k || (x || y)) || (xs || ys)) ≡ (k || ((x || xs) || (y || ys)))
or_interleave true x xs y ys = refl
or_interleave false true xs y ys = refl
or_interleave false false true true ys = refl
or_interleave false false true false ys = refl
or_interleave false false false y ys = refl

settled_bool : (k k' x xs y ys z w : Bool) → (k' || z) ≡ (k || (x || y)) → (k || ((x || xs) || (y || ys))) ≡ w → (k' || (xs || (z || ys))) ≡ w
settled_bool k k' x xs y ys z w e f = or_rotate k' xs z ys ∙ ap (λ b. b || (xs || ys)) e ∙ or_interleave k x xs y ys ∙ f

-- the range that ends first was appended or merged
pub union_slices_settled : (kept kept' xs ys whole_xs whole_ys : List (ℕ × ℕ)) (x y z : ℕ × ℕ) → IsUnionOfSlices kept (x ∷ xs) (y ∷ ys) whole_xs whole_ys → IsAppendedOrMerged x y z kept kept' → IsUnionOfSlices kept' xs (z ∷ ys) whole_xs whole_ys
union_slices_settled kept kept' xs ys whole_xs whole_ys x y z s t =
    let next : x.1 < next_of xs = (ends_next (x ∷ []) xs s.first_normal).0 in
    record {
      normal = t.normal;
      first_normal = s.first_normal.3;
      second_normal = (t.filled, omega (arith, t.end, s.second_normal.1), subst (λ n. BeginsAfter n ys) (sym t.end) s.second_normal.2, s.second_normal.3);
      below = t.below (next_of xs) next;
      same = λ q. settled_bool (in_ranges kept q) (in_ranges kept' q) (in_range x q) (in_ranges xs q) (in_range y q) (in_ranges ys q) (in_range z q) (in_ranges whole_xs q || in_ranges whole_ys q) (t.same q) (s.same q);
    }

-- the first slice has no more ranges
pub union_of_slices_normal : (kept xs ys whole_xs whole_ys : List (ℕ × ℕ)) (y : ℕ × ℕ) → IsUnionOfSlices kept xs (y ∷ ys) whole_xs whole_ys → xs ≡ [] → IsNormal (kept ++ y ∷ ys)
union_of_slices_normal kept xs ys whole_xs whole_ys y s none =
    let filled = s.second_normal.0 in
    let within = s.second_normal.1 in
    normal_append kept (y ∷ ys) s.normal s.second_normal (EndsBelow-more (min (next_of xs) y.0) y.0 kept s.below (omega arith))

pub union_of_slices_first_empty : (kept xs ys whole_xs whole_ys : List (ℕ × ℕ)) → IsUnionOfSlices kept xs ys whole_xs whole_ys → xs ≡ [] → (q : ℕ) → in_ranges (kept ++ ys) q ≡ (in_ranges whole_xs q || in_ranges whole_ys q)
union_of_slices_first_empty kept xs ys whole_xs whole_ys s none q =
    in_ranges-append kept ys q ∙ ap (λ (l : List (ℕ × ℕ)). in_ranges kept q || (in_ranges l q || in_ranges ys q)) (sym none) ∙ s.same q

-- the invariant of an intersection of two slices
pub record IsIntersectionOfSlices (kept xs ys whole_xs whole_ys : List (ℕ × ℕ)) : Type 0 where
  pub normal : IsNormal kept
  pub first_normal : IsNormal xs
  pub second_normal : IsNormal ys
  pub below : EndsBelow (max (next_of xs) (next_of ys)) kept
  pub same : (q : ℕ) → (in_ranges kept q || (in_ranges xs q && in_ranges ys q)) ≡ (in_ranges whole_xs q && in_ranges whole_ys q)

pub intersection_of_slices_swap : (kept xs ys whole_xs whole_ys : List (ℕ × ℕ)) → IsIntersectionOfSlices kept xs ys whole_xs whole_ys → IsIntersectionOfSlices kept ys xs whole_ys whole_xs
intersection_of_slices_swap kept xs ys whole_xs whole_ys s = record {
  normal = s.normal;
  first_normal = s.second_normal;
  second_normal = s.first_normal;
  below = EndsBelow-more (max (next_of xs) (next_of ys)) (max (next_of ys) (next_of xs)) kept s.below (omega arith);
  same = λ q. ap (λ k. in_ranges kept q || k) (and_swap (in_ranges ys q) (in_ranges xs q)) ∙ s.same q ∙ and_swap (in_ranges whole_xs q) (in_ranges whole_ys q);
}

-- the first ranges of both slices, and what they have in common
pub intersection_of_slices_by_equality : (kept xs ys xs' ys' whole_xs whole_ys : List (ℕ × ℕ)) → IsIntersectionOfSlices kept xs ys whole_xs whole_ys → xs ≡ xs' → ys ≡ ys' → IsIntersectionOfSlices kept xs' ys' whole_xs whole_ys
intersection_of_slices_by_equality kept xs ys xs' ys' whole_xs whole_ys s ex ey =
    subst (λ (l : List (ℕ × ℕ)). IsIntersectionOfSlices kept l ys' whole_xs whole_ys) ex (subst (λ (l : List (ℕ × ℕ)). IsIntersectionOfSlices kept xs l whole_xs whole_ys) ey s)

-- the common part of the range that ends first and the other range was appended
pub intersection_of_slices_after_range : (kept kept' xs ys whole_xs whole_ys : List (ℕ × ℕ)) (x y : ℕ × ℕ) (from to : ℕ) → IsIntersectionOfSlices kept (x ∷ xs) (y ∷ ys) whole_xs whole_ys → x.1 ≤ y.1 → from ≡ max x.0 y.0 → to ≡ min x.1 y.1 → IsNormal kept' → ((f : ℕ) → from ≤ f → to < f → EndsBelow f kept') → ((q : ℕ) → in_ranges kept' q ≡ (in_ranges kept q || in_range (from, to) q)) → IsIntersectionOfSlices kept' xs (y ∷ ys) whole_xs whole_ys
intersection_of_slices_after_range kept kept' xs ys whole_xs whole_ys x y from to s ends is_from is_to normal below same =
    let next : x.1 < next_of xs = (ends_next (x ∷ []) xs s.first_normal).0 in
    let filled : x.0 < x.1 = s.first_normal.0 in
    record {
      normal = normal;
      first_normal = s.first_normal.3;
      second_normal = s.second_normal;
      below = below (max (next_of xs) y.0) (omega arith) (omega arith);
      same = λ q. ap (λ k. k || (in_ranges xs q && in_ranges (y ∷ ys) q)) (same q)
          ∙ or_assoc (in_ranges kept q) (in_range (from, to) q) (in_ranges xs q && in_ranges (y ∷ ys) q)
          ∙ ap (λ k. in_ranges kept q || k) (sym (common_of_ranges x y xs ys from to q s.second_normal ends is_from is_to))
          ∙ s.same q;
    }

pub intersection_of_slices_first_empty : (kept xs ys whole_xs whole_ys : List (ℕ × ℕ)) → IsIntersectionOfSlices kept xs ys whole_xs whole_ys → xs ≡ [] → (q : ℕ) → in_ranges kept q ≡ (in_ranges whole_xs q && in_ranges whole_ys q)
intersection_of_slices_first_empty kept xs ys whole_xs whole_ys s none q =
    sym (or_false (in_ranges kept q)) ∙ ap (λ (l : List (ℕ × ℕ)). in_ranges kept q || (in_ranges l q && in_ranges ys q)) (sym none) ∙ s.same q

pub intersection_of_slices_second_empty : (kept xs ys whole_xs whole_ys : List (ℕ × ℕ)) → IsIntersectionOfSlices kept xs ys whole_xs whole_ys → ys ≡ [] → (q : ℕ) → in_ranges kept q ≡ (in_ranges whole_xs q && in_ranges whole_ys q)
intersection_of_slices_second_empty kept xs ys whole_xs whole_ys s none q =
    sym (or_false (in_ranges kept q)) ∙ ap (λ k. in_ranges kept q || k) (sym (and_false (in_ranges xs q)))
    ∙ ap (λ (l : List (ℕ × ℕ)). in_ranges kept q || (in_ranges xs q && in_ranges l q)) (sym none) ∙ s.same q

-- the invariant of a difference of two slices
pub record IsDifferenceOfSlices (kept xs ys whole_xs whole_ys : List (ℕ × ℕ)) : Type 0 where
  pub normal : IsNormal kept
  pub first_normal : IsNormal xs
  pub second_normal : IsNormal ys
  pub below : EndsBelow (next_of xs) kept
  pub same : (q : ℕ) → (in_ranges kept q || (in_ranges xs q && not (in_ranges ys q))) ≡ (in_ranges whole_xs q && not (in_ranges whole_ys q))

pub difference_of_slices_start : (kept xs ys whole_xs : List (ℕ × ℕ)) → kept ≡ [] → whole_xs ≡ xs → IsNormal whole_xs → IsNormal ys → IsDifferenceOfSlices kept xs ys whole_xs ys
difference_of_slices_start kept xs ys whole_xs none is nx ny = subst (λ (k : List (ℕ × ℕ)). IsDifferenceOfSlices k xs ys whole_xs ys) (sym none) (record {
  normal = tt;
  first_normal = subst IsNormal is nx;
  second_normal = ny;
  below = tt;
  same = λ q. ap (λ (l : List (ℕ × ℕ)). in_ranges l q && not (in_ranges ys q)) (sym is);
})

empty_common_before : (a b c d to q : ℕ) (k : Bool) → d ≤ a → c < d → to ≡ min b c → k ≡ ((nat_le a q && nat_lt q to) || k)
empty_common_before a b c d to q k le filled is = grind (arith, nat_tests)

difference_of_first_ranges : (x y : ℕ × ℕ) (xs ys : List (ℕ × ℕ)) (to from q : ℕ) → IsNormal (x ∷ xs) → IsNormal (y ∷ ys) → y.1 < x.1 → to ≡ min x.1 y.0 → from ≡ max x.0 y.1 → (in_ranges (x ∷ xs) q && not (in_ranges (y ∷ ys) q)) ≡ (in_range (x.0, to) q || (in_ranges ((from, x.1) ∷ xs) q && not (in_ranges ys q)))
difference_of_first_ranges x y xs ys to from q nx ny ends is_to is_from = elim (cases_lt x.0 y.1) [
  | inl lookahead ↦
      let at : y.1 ≡ from = omega arith in
      difference_of_trimmed x y xs ys to q nx ny lookahead ends is_to ∙ ap (λ n. in_range (x.0, to) q || (in_ranges ((n, x.1) ∷ xs) q && not (in_ranges ys q))) at
  | inr le ↦
      let at : x.0 ≡ from = omega arith in
      difference_skip_second x y xs ys q nx le ∙ empty_common_before x.0 x.1 y.0 y.1 to q (in_ranges (x ∷ xs) q && not (in_ranges ys q)) le ny.0 is_to
      ∙ ap (λ n. in_range (x.0, to) q || (in_ranges ((n, x.1) ∷ xs) q && not (in_ranges ys q))) at
]

-- the first slice's next range ends last: the part before the second's was appended, and the part after it remains
pub difference_of_slices_after_cut : (kept kept' xs ys ys' whole_xs whole_ys : List (ℕ × ℕ)) (x y : ℕ × ℕ) (to from : ℕ) → IsDifferenceOfSlices kept (x ∷ xs) ys whole_xs whole_ys → ys ≡ y ∷ ys' → y.1 < x.1 → to ≡ min x.1 y.0 → from ≡ max x.0 y.1 → IsNormal kept' → ((f : ℕ) → x.0 ≤ f → to < f → EndsBelow f kept') → ((q : ℕ) → in_ranges kept' q ≡ (in_ranges kept q || in_range (x.0, to) q)) → IsDifferenceOfSlices kept' ((from, x.1) ∷ xs) ys' whole_xs whole_ys
difference_of_slices_after_cut kept kept' xs ys ys' whole_xs whole_ys x y to from s0 ey ends is_to is_from normal below same =
    let s = subst (λ (l : List (ℕ × ℕ)). IsDifferenceOfSlices kept (x ∷ xs) l whole_xs whole_ys) ey s0 in
    let filled : y.0 < y.1 = s.second_normal.0 in
    let begun : x.0 < x.1 = s.first_normal.0 in
    record {
      normal = normal;
      first_normal = (omega arith, s.first_normal.1, s.first_normal.2, s.first_normal.3);
      second_normal = s.second_normal.3;
      below = below from (omega arith) (omega arith);
      same = λ q. ap (λ k. k || (in_ranges ((from, x.1) ∷ xs) q && not (in_ranges ys' q))) (same q)
          ∙ or_assoc (in_ranges kept q) (in_range (x.0, to) q) (in_ranges ((from, x.1) ∷ xs) q && not (in_ranges ys' q))
          ∙ ap (λ k. in_ranges kept q || k) (sym (difference_of_first_ranges x y xs ys' to from q s.first_normal s.second_normal ends is_to is_from))
          ∙ s.same q;
    }

-- the first slice's next range ends first: the part before the second's was appended
pub difference_of_slices_after_range : (kept kept' xs ys ys' whole_xs whole_ys : List (ℕ × ℕ)) (x y : ℕ × ℕ) (to : ℕ) → IsDifferenceOfSlices kept (x ∷ xs) ys whole_xs whole_ys → ys ≡ y ∷ ys' → x.1 ≤ y.1 → to ≡ min x.1 y.0 → IsNormal kept' → ((f : ℕ) → x.0 ≤ f → to < f → EndsBelow f kept') → ((q : ℕ) → in_ranges kept' q ≡ (in_ranges kept q || in_range (x.0, to) q)) → IsDifferenceOfSlices kept' xs ys whole_xs whole_ys
difference_of_slices_after_range kept kept' xs ys ys' whole_xs whole_ys x y to s0 ey ends is normal below same =
    let s = subst (λ (l : List (ℕ × ℕ)). IsDifferenceOfSlices kept (x ∷ xs) l whole_xs whole_ys) ey s0 in
    let next : x.1 < next_of xs = (ends_next (x ∷ []) xs s.first_normal).0 in
    let filled : x.0 < x.1 = s.first_normal.0 in
    subst (λ (l : List (ℕ × ℕ)). IsDifferenceOfSlices kept' xs l whole_xs whole_ys) (sym ey) (record {
      normal = normal;
      first_normal = s.first_normal.3;
      second_normal = s.second_normal;
      below = below (next_of xs) (omega arith) (omega arith);
      same = λ q. ap (λ k. k || (in_ranges xs q && not (in_ranges (y ∷ ys') q))) (same q)
          ∙ or_assoc (in_ranges kept q) (in_range (x.0, to) q) (in_ranges xs q && not (in_ranges (y ∷ ys') q))
          ∙ ap (λ k. in_ranges kept q || k) (sym (removed x y xs ys' to q s.first_normal s.second_normal ends is))
          ∙ s.same q;
    })

pub difference_of_slices_complete : (kept xs ys whole_xs whole_ys : List (ℕ × ℕ)) → IsDifferenceOfSlices kept xs ys whole_xs whole_ys → xs ≡ [] → (q : ℕ) → in_ranges kept q ≡ (in_ranges whole_xs q && not (in_ranges whole_ys q))
difference_of_slices_complete kept xs ys whole_xs whole_ys s none q =
    sym (or_false (in_ranges kept q)) ∙ ap (λ (l : List (ℕ × ℕ)). in_ranges kept q || (in_ranges l q && not (in_ranges ys q))) (sym none) ∙ s.same q

and_true : (a : Bool) → a ≡ (a && true)
and_true true = refl
and_true false = refl

pub difference_of_slices_with_rest : (kept xs ys whole_xs whole_ys : List (ℕ × ℕ)) → IsDifferenceOfSlices kept xs ys whole_xs whole_ys → ys ≡ [] → (q : ℕ) → in_ranges (kept ++ xs) q ≡ (in_ranges whole_xs q && not (in_ranges whole_ys q))
difference_of_slices_with_rest kept xs ys whole_xs whole_ys s none q =
    in_ranges-append kept xs q ∙ ap (λ b. in_ranges kept q || b) (and_true (in_ranges xs q))
    ∙ ap (λ (l : List (ℕ × ℕ)). in_ranges kept q || (in_ranges xs q && not (in_ranges l q))) (sym none) ∙ s.same q

pub difference_of_slices_normal : (kept xs ys whole_xs whole_ys : List (ℕ × ℕ)) → IsDifferenceOfSlices kept xs ys whole_xs whole_ys → IsNormal (kept ++ xs)
difference_of_slices_normal kept xs ys whole_xs whole_ys s = normal_append kept xs s.normal s.first_normal s.below

pub union_slices_at : (kept xs xs' ys whole_xs whole_ys : List (ℕ × ℕ)) → IsUnionOfSlices kept xs ys whole_xs whole_ys → xs ≡ xs' → IsUnionOfSlices kept xs' ys whole_xs whole_ys
union_slices_at kept xs xs' ys whole_xs whole_ys s is = subst (λ (l : List (ℕ × ℕ)). IsUnionOfSlices kept l ys whole_xs whole_ys) is s

pub difference_of_slices_by_equality : (kept xs xs' ys whole_xs whole_ys : List (ℕ × ℕ)) → IsDifferenceOfSlices kept xs ys whole_xs whole_ys → xs ≡ xs' → IsDifferenceOfSlices kept xs' ys whole_xs whole_ys
difference_of_slices_by_equality kept xs xs' ys whole_xs whole_ys s is = subst (λ (l : List (ℕ × ℕ)). IsDifferenceOfSlices kept l ys whole_xs whole_ys) is s

-- a slice without ranges
pub union_with_empty_first : (xs ys : List (ℕ × ℕ)) → xs ≡ [] → (q : ℕ) → in_ranges ys q ≡ (in_ranges xs q || in_ranges ys q)
union_with_empty_first xs ys none q = ap (λ (l : List (ℕ × ℕ)). in_ranges l q || in_ranges ys q) (sym none)

pub union_with_empty_second : (xs ys : List (ℕ × ℕ)) → ys ≡ [] → (q : ℕ) → in_ranges xs q ≡ (in_ranges xs q || in_ranges ys q)
union_with_empty_second xs ys none q = sym (or_false (in_ranges xs q)) ∙ ap (λ (l : List (ℕ × ℕ)). in_ranges xs q || in_ranges l q) (sym none)

pub difference_of_empty : (kept xs ys : List (ℕ × ℕ)) → kept ≡ [] → xs ≡ [] → (q : ℕ) → in_ranges kept q ≡ (in_ranges xs q && not (in_ranges ys q))
difference_of_empty kept xs ys k none q = ap (λ (l : List (ℕ × ℕ)). in_ranges l q) k ∙ ap (λ (l : List (ℕ × ℕ)). in_ranges l q && not (in_ranges ys q)) (sym none)
