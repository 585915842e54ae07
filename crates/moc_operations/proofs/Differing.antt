-- The symmetric difference of two lists of ranges, range by range.
use Rattle.std.proofs.Common.{◌≡◌, ℕ, ◌<◌, ◌≤◌, Bool, true, false, not, ◌||◌, ◌&&◌, List, [], ◌∷◌, ◌++◌, min, max}
use Rattle.std.proofs.Common.{refl, sym, ap, subst, ◌∙◌, arith, append_assoc, inl, inr}
use Rattle.std.specs.Prelude.{nat_le, nat_lt}
use Rattle.std.proofs.lemmas.Bool.{cases_lt}
use Rattle.std.proofs.lemmas.Bool.Decides.{nat_tests}
use Rattle.moc_blocks.specs.RangeList.{pixel_count, IsNormal, BeginsAfter, set_of}
use Rattle.moc_blocks.specs.Lemmas.Members.{same_members, in_range, in_ranges, contains-set_of, in_ranges-append, or_false, or_assoc}
use Rattle.moc_operations.specs.Lemmas.Members.{contains-symmetric}
use Rattle.moc_operations.specs.Operations.{symmetric}
use Rattle.moc_blocks.specs.Private.Blocks.{next_of}
use Rattle.moc_blocks.specs.Private.Built.{CanAppend, MovesPrefix, EndsBelow}
use Rattle.moc_blocks.specs.Lemmas.Ranges.{later_only}
use Rattle.moc_operations.specs.Private.Differing.{exactly_one, IsRemovedFromBoth, IsSymmetricStep}
use Rattle.moc_blocks.proofs.Merging.{normal_append, ends_next, EndsBelow-append, EndsBelow-more}
use Rattle.moc_operations.proofs.Merging.{next_of_suffix}
use Rattle.moc_blocks.proofs.Blocking.{IsNormal-prefix, IsNormal-suffix}
use Rattle.moc_operations.proofs.Lacking.{none_before, range_from}
use Rattle.moc_blocks.proofs.Building.{pushed_normal}

pub differs_view : (xs ys zs : List (ℕ × ℕ)) → ((q : ℕ) → in_ranges zs q ≡ exactly_one (in_ranges xs q) (in_ranges ys q)) → set_of zs ≡ symmetric (set_of xs) (set_of ys)
differs_view xs ys zs each = same_members _ _ (λ q.
    contains-set_of zs q ∙ each q ∙ (λ i. exactly_one (sym (contains-set_of xs q) i) (sym (contains-set_of ys q) i))
    ∙ sym (contains-symmetric (set_of xs) (set_of ys) q))

pub differs_swap : (a b : Bool) → exactly_one a b ≡ exactly_one b a
differs_swap true true = refl
differs_swap true false = refl
differs_swap false true = refl
differs_swap false false = refl

-- a number before the end of a range that ends before the other begins
separate_until_end : (a b c d q : ℕ) (xs ys : Bool) → b < c → q < b → xs ≡ false → ys ≡ false → exactly_one ((nat_le a q && nat_lt q b) || xs) ((nat_le c q && nat_lt q d) || ys) ≡ ((nat_le a q && nat_lt q b) || exactly_one xs ((nat_le c q && nat_lt q d) || ys))
separate_until_end a b c d q xs ys bc lt no_xs no_ys = grind (arith, nat_tests)

separate_from_end : (a b q : ℕ) (xs ys : Bool) → b ≤ q → exactly_one ((nat_le a q && nat_lt q b) || xs) ys ≡ ((nat_le a q && nat_lt q b) || exactly_one xs ys)
separate_from_end a b q xs ys ge = grind (arith, nat_tests)

-- a number before the end of a range that ends where the other begins
touching_until_end : (a b c d q : ℕ) (xs ys : Bool) → b ≡ c → c < d → q < b → xs ≡ false → ys ≡ false → exactly_one ((nat_le a q && nat_lt q b) || xs) ((nat_le c q && nat_lt q d) || ys) ≡ exactly_one xs ((nat_le a q && nat_lt q d) || ys)
touching_until_end a b c d q xs ys bc cd lt no_xs no_ys = grind (arith, nat_tests)

touching_from_end : (a b c d q : ℕ) (xs ys : Bool) → a < b → b ≡ c → b ≤ q → exactly_one ((nat_le a q && nat_lt q b) || xs) ((nat_le c q && nat_lt q d) || ys) ≡ exactly_one xs ((nat_le a q && nat_lt q d) || ys)
touching_from_end a b c d q xs ys ab bc ge = grind (arith, nat_tests)

-- a number before the end of a range that ends inside the other
overlapping_until_end : (a b c d from to q : ℕ) (xs ys : Bool) → a < b → c < b → b ≤ d → from ≡ min a c → to ≡ max a c → q < b → xs ≡ false → ys ≡ false → exactly_one ((nat_le a q && nat_lt q b) || xs) ((nat_le c q && nat_lt q d) || ys) ≡ ((nat_le from q && nat_lt q to) || exactly_one xs ((nat_le b q && nat_lt q d) || ys))
overlapping_until_end a b c d from to q xs ys ab cb bd f t lt no_xs no_ys = grind (arith, nat_tests)

overlapping_from_end : (a b c d from to q : ℕ) (xs ys : Bool) → a < b → c < b → from ≡ min a c → to ≡ max a c → b ≤ q → exactly_one ((nat_le a q && nat_lt q b) || xs) ((nat_le c q && nat_lt q d) || ys) ≡ ((nat_le from q && nat_lt q to) || exactly_one xs ((nat_le b q && nat_lt q d) || ys))
overlapping_from_end a b c d from to q xs ys ab cb f t ge = grind (arith, nat_tests)

empty_range_or : (b q : ℕ) (k : Bool) → ((nat_le b q && nat_lt q b) || k) ≡ k
empty_range_or b q k = grind (arith, nat_tests)

-- the numbers in exactly one list, if the first range ends before the second's begins
symmetric_of_separate_ranges : (x y : ℕ × ℕ) (xs ys : List (ℕ × ℕ)) (q : ℕ) → IsNormal (x ∷ xs) → IsNormal (y ∷ ys) → x.1 < y.0 → exactly_one (in_ranges (x ∷ xs) q) (in_ranges (y ∷ ys) q) ≡ (in_range x q || exactly_one (in_ranges xs q) (in_ranges (y ∷ ys) q))
symmetric_of_separate_ranges x y xs ys q nx ny lt = elim (cases_lt q x.1) [
  | inl low ↦ separate_until_end x.0 x.1 y.0 y.1 q (in_ranges xs q) (in_ranges ys q) lt low (later_only x.1 q xs nx.3 nx.2 (omega arith)) (later_only y.1 q ys ny.3 ny.2 (omega (arith, ny.0)))
  | inr ge ↦ separate_from_end x.0 x.1 q (in_ranges xs q) (in_ranges (y ∷ ys) q) ge
]

symmetric_of_touching : (x y : ℕ × ℕ) (xs ys : List (ℕ × ℕ)) (q : ℕ) → IsNormal (x ∷ xs) → IsNormal (y ∷ ys) → x.1 ≡ y.0 → exactly_one (in_ranges (x ∷ xs) q) (in_ranges (y ∷ ys) q) ≡ exactly_one (in_ranges xs q) (in_ranges ((x.0, y.1) ∷ ys) q)
symmetric_of_touching x y xs ys q nx ny at = elim (cases_lt q x.1) [
  | inl low ↦ touching_until_end x.0 x.1 y.0 y.1 q (in_ranges xs q) (in_ranges ys q) at ny.0 low (later_only x.1 q xs nx.3 nx.2 (omega arith)) (later_only y.1 q ys ny.3 ny.2 (omega (arith, ny.0)))
  | inr ge ↦ touching_from_end x.0 x.1 y.0 y.1 q (in_ranges xs q) (in_ranges ys q) nx.0 at ge
]

symmetric_of_overlapping : (x y : ℕ × ℕ) (xs ys : List (ℕ × ℕ)) (from to q : ℕ) → IsNormal (x ∷ xs) → IsNormal (y ∷ ys) → y.0 < x.1 → x.1 ≤ y.1 → from ≡ min x.0 y.0 → to ≡ max x.0 y.0 → exactly_one (in_ranges (x ∷ xs) q) (in_ranges (y ∷ ys) q) ≡ (in_range (from, to) q || exactly_one (in_ranges xs q) (in_ranges ((x.1, y.1) ∷ ys) q))
symmetric_of_overlapping x y xs ys from to q nx ny lookahead ends f t = elim (cases_lt q x.1) [
  | inl low ↦ overlapping_until_end x.0 x.1 y.0 y.1 from to q (in_ranges xs q) (in_ranges ys q) nx.0 lookahead ends f t low (later_only x.1 q xs nx.3 nx.2 (omega arith)) (later_only y.1 q ys ny.3 ny.2 (omega arith))
  | inr ge ↦ overlapping_from_end x.0 x.1 y.0 y.1 from to q (in_ranges xs q) (in_ranges ys q) nx.0 lookahead f t ge
]

over_both : (x y : ℕ × ℕ) (xs ys : List (ℕ × ℕ)) (from to q : ℕ) → IsNormal (x ∷ xs) → IsNormal (y ∷ ys) → x.1 ≡ y.1 → from ≡ min x.0 y.0 → to ≡ max x.0 y.0 → exactly_one (in_ranges (x ∷ xs) q) (in_ranges (y ∷ ys) q) ≡ (in_range (from, to) q || exactly_one (in_ranges xs q) (in_ranges ys q))
over_both x y xs ys from to q nx ny at f t =
    symmetric_of_overlapping x y xs ys from to q nx ny (omega (arith, ny.0)) (omega arith) f t
    ∙ ap (λ n. in_range (from, to) q || exactly_one (in_ranges xs q) (in_ranges ((x.1, n) ∷ ys) q)) (sym at)
    ∙ ap (λ b. in_range (from, to) q || exactly_one (in_ranges xs q) b) (empty_range_or x.1 q (in_ranges ys q))

pub removed_from_both_apart : (x y : ℕ × ℕ) (kept kept' : List (ℕ × ℕ)) → IsNormal kept → x.0 < x.1 → y.0 < y.1 → x.1 ≤ pixel_count → EndsBelow (min x.0 y.0) kept → x.1 < y.0 → kept' ≡ kept ++ x ∷ [] → IsRemovedFromBoth x y y kept kept'
removed_from_both_apart x y kept kept' normal filled other within after lt is =
    let first = EndsBelow-more (min x.0 y.0) x.0 kept after (omega arith) in
    subst (λ (k : List (ℕ × ℕ)). IsRemovedFromBoth x y y kept k) (sym is) (record {
      normal = pushed_normal kept x normal filled within first;
      end = refl;
      filled = other;
      below = λ f low. EndsBelow-append (min f y.0) kept (x ∷ []) (EndsBelow-more x.0 (min f y.0) kept first (omega arith)) (omega arith, tt);
      same = λ xs ys q nx ny. ap (λ b. b || exactly_one (in_ranges xs q) (in_ranges (y ∷ ys) q)) (in_ranges-append kept (x ∷ []) q ∙ ap (λ b. in_ranges kept q || b) (or_false (in_range x q)))
          ∙ or_assoc (in_ranges kept q) (in_range x q) (exactly_one (in_ranges xs q) (in_ranges (y ∷ ys) q))
          ∙ ap (λ b. in_ranges kept q || b) (sym (symmetric_of_separate_ranges x y xs ys q nx ny lt));
    })

pub removed_from_both_touching : (x y : ℕ × ℕ) (kept : List (ℕ × ℕ)) → IsNormal kept → x.0 < x.1 → x.1 < y.1 → EndsBelow (min x.0 y.0) kept → x.1 ≡ y.0 → IsRemovedFromBoth x y (x.0, y.1) kept kept
removed_from_both_touching x y kept normal filled ends after at = record {
  normal = normal;
  end = refl;
  filled = omega arith;
  below = λ f low. EndsBelow-more (min x.0 y.0) (min f x.0) kept after (omega arith);
  same = λ xs ys q nx ny. ap (λ b. in_ranges kept q || b) (sym (symmetric_of_touching x y xs ys q nx ny at));
}

pub removed_from_both_overlapping : (x y : ℕ × ℕ) (from to : ℕ) (kept kept' : List (ℕ × ℕ)) → x.0 < x.1 → x.1 < y.1 → y.0 < x.1 → from ≡ min x.0 y.0 → to ≡ max x.0 y.0 → IsNormal kept' → ((f : ℕ) → from ≤ f → to < f → EndsBelow f kept') → ((q : ℕ) → in_ranges kept' q ≡ (in_ranges kept q || in_range (from, to) q)) → IsRemovedFromBoth x y (x.1, y.1) kept kept'
removed_from_both_overlapping x y from to kept kept' filled ends lookahead f t normal below same = record {
  normal = normal;
  end = refl;
  filled = ends;
  below = λ g low. below (min g x.1) (omega arith) (omega arith);
  same = λ xs ys q nx ny. ap (λ b. b || exactly_one (in_ranges xs q) (in_ranges ((x.1, y.1) ∷ ys) q)) (same q)
      ∙ or_assoc (in_ranges kept q) (in_range (from, to) q) (exactly_one (in_ranges xs q) (in_ranges ((x.1, y.1) ∷ ys) q))
      ∙ ap (λ b. in_ranges kept q || b) (sym (symmetric_of_overlapping x y xs ys from to q nx ny lookahead (omega arith) f t));
}

pub differing_start : (kept xs ys : List (ℕ × ℕ)) → kept ≡ [] → IsNormal xs → IsNormal ys → IsSymmetricStep kept xs ys xs ys
differing_start kept xs ys none nx ny = subst (λ (k : List (ℕ × ℕ)). IsSymmetricStep k xs ys xs ys) (sym none) (record {
  normal = tt;
  first_normal = nx;
  second_normal = ny;
  below = tt;
  same = λ q. refl;
})

pub differing_swap : (kept xs ys whole_xs whole_ys : List (ℕ × ℕ)) → IsSymmetricStep kept xs ys whole_xs whole_ys → IsSymmetricStep kept ys xs whole_ys whole_xs
differing_swap kept xs ys whole_xs whole_ys s = record {
  normal = s.normal;
  first_normal = s.second_normal;
  second_normal = s.first_normal;
  below = EndsBelow-more (min (next_of xs) (next_of ys)) (min (next_of ys) (next_of xs)) kept s.below (omega arith);
  same = λ q. ap (λ b. in_ranges kept q || b) (differs_swap (in_ranges ys q) (in_ranges xs q)) ∙ s.same q ∙ differs_swap (in_ranges whole_xs q) (in_ranges whole_ys q);
}

-- the range that ends first was removed
pub symmetric_step_after_removal : (kept kept' xs ys whole_xs whole_ys : List (ℕ × ℕ)) (x y z : ℕ × ℕ) → IsSymmetricStep kept (x ∷ xs) (y ∷ ys) whole_xs whole_ys → IsRemovedFromBoth x y z kept kept' → IsSymmetricStep kept' xs (z ∷ ys) whole_xs whole_ys
symmetric_step_after_removal kept kept' xs ys whole_xs whole_ys x y z s t =
    let next : x.1 < next_of xs = (ends_next (x ∷ []) xs s.first_normal).0 in
    record {
      normal = t.normal;
      first_normal = s.first_normal.3;
      second_normal = (t.filled, omega (arith, t.end, s.second_normal.1), subst (λ n. BeginsAfter n ys) (sym t.end) s.second_normal.2, s.second_normal.3);
      below = t.below (next_of xs) next;
      same = λ q. t.same xs ys q s.first_normal s.second_normal ∙ s.same q;
    }

-- both ranges end at the same number
pub differing_both : (kept kept' xs ys whole_xs whole_ys : List (ℕ × ℕ)) (x y : ℕ × ℕ) (from to : ℕ) → IsSymmetricStep kept (x ∷ xs) (y ∷ ys) whole_xs whole_ys → x.1 ≡ y.1 → from ≡ min x.0 y.0 → to ≡ max x.0 y.0 → IsNormal kept' → ((f : ℕ) → from ≤ f → to < f → EndsBelow f kept') → ((q : ℕ) → in_ranges kept' q ≡ (in_ranges kept q || in_range (from, to) q)) → IsSymmetricStep kept' xs ys whole_xs whole_ys
differing_both kept kept' xs ys whole_xs whole_ys x y from to s at f t normal below same =
    let next : x.1 < next_of xs = (ends_next (x ∷ []) xs s.first_normal).0 in
    let next_y : y.1 < next_of ys = (ends_next (y ∷ []) ys s.second_normal).0 in
    let filled : x.0 < x.1 = s.first_normal.0 in
    let filled_y : y.0 < y.1 = s.second_normal.0 in
    record {
      normal = normal;
      first_normal = s.first_normal.3;
      second_normal = s.second_normal.3;
      below = below (min (next_of xs) (next_of ys)) (omega arith) (omega arith);
      same = λ q. ap (λ b. b || exactly_one (in_ranges xs q) (in_ranges ys q)) (same q)
          ∙ or_assoc (in_ranges kept q) (in_range (from, to) q) (exactly_one (in_ranges xs q) (in_ranges ys q))
          ∙ ap (λ b. in_ranges kept q || b) (sym (over_both x y xs ys from to q s.first_normal s.second_normal at f t))
          ∙ s.same q;
    }

-- ---- ranges that are appended whole

pub ends_both : (f g : ℕ) (rs : List (ℕ × ℕ)) → EndsBelow f rs → EndsBelow g rs → EndsBelow (min f g) rs
ends_both f g [] low high = tt
ends_both f g (r ∷ rs) low high = (omega (arith, low.0, high.0), ends_both f g rs low.1 high.1)

exactly_one_after_removal : (r all ys removed xs : Bool) → exactly_one all ys ≡ (removed || exactly_one xs ys) → (r ≡ true → ys ≡ false) → exactly_one (r || all) ys ≡ ((r || removed) || exactly_one xs ys)
exactly_one_after_removal true all ys removed xs rest alone = ap (λ b. not b || (b && false)) (alone refl)
exactly_one_after_removal false all ys removed xs rest alone = rest

-- ranges of the first list that end before the second's next one begins
pub differs_after_removal : (removed xs ys : List (ℕ × ℕ)) (q : ℕ) → IsNormal ys → EndsBelow (next_of ys) removed → exactly_one (in_ranges (removed ++ xs) q) (in_ranges ys q) ≡ (in_ranges removed q || exactly_one (in_ranges xs q) (in_ranges ys q))
differs_after_removal [] xs ys q other below = refl
differs_after_removal (r ∷ removed) xs ys q other below =
    let alone : in_range r q ≡ true → in_ranges ys q ≡ false = λ here. none_before ys q other (omega (arith, below.0, (range_from r q here).1)) in
    exactly_one_after_removal (in_range r q) (in_ranges (removed ++ xs) q) (in_ranges ys q) (in_ranges removed q) (in_ranges xs q) (differs_after_removal removed xs ys q other below.1) alone

pub symmetric_step_after_move : (kept kept' xs xs' ys whole_xs whole_ys : List (ℕ × ℕ)) (limit : ℕ) → IsSymmetricStep kept xs ys whole_xs whole_ys → limit ≤ next_of ys → MovesPrefix xs xs' limit kept kept' → IsSymmetricStep kept' xs' ys whole_xs whole_ys
symmetric_step_after_move kept kept' xs xs' ys whole_xs whole_ys limit s le c =
    let whole = subst IsNormal c.parts s.first_normal in
    let later = next_of_suffix c.removed xs' whole in
    let before = EndsBelow-more limit (next_of ys) c.removed c.below le in
    record {
      normal = c.built;
      first_normal = IsNormal-suffix c.removed xs' whole;
      second_normal = s.second_normal;
      below = subst (λ (k : List (ℕ × ℕ)). EndsBelow (min (next_of xs') (next_of ys)) k) (sym c.kept)
          (EndsBelow-append (min (next_of xs') (next_of ys)) kept c.removed
          (EndsBelow-more (min (next_of xs) (next_of ys)) (min (next_of xs') (next_of ys)) kept s.below (omega (arith, ap next_of c.parts, later)))
          (ends_both (next_of xs') (next_of ys) c.removed (ends_next c.removed xs' whole) before));
      same = λ q. ap (λ b. b || exactly_one (in_ranges xs' q) (in_ranges ys q)) (ap (λ (k : List (ℕ × ℕ)). in_ranges k q) c.kept ∙ in_ranges-append kept c.removed q)
          ∙ or_assoc (in_ranges kept q) (in_ranges c.removed q) (exactly_one (in_ranges xs' q) (in_ranges ys q))
          ∙ ap (λ b. in_ranges kept q || b)
          (sym (differs_after_removal c.removed xs' ys q s.second_normal before)
          ∙ ap (λ (k : List (ℕ × ℕ)). exactly_one (in_ranges k q) (in_ranges ys q)) (sym c.parts))
          ∙ s.same q;
    }

-- the first list has no more ranges
pub differed_normal : (kept xs ys whole_xs whole_ys : List (ℕ × ℕ)) → IsSymmetricStep kept xs ys whole_xs whole_ys → xs ≡ [] → IsNormal (kept ++ ys)
differed_normal kept xs ys whole_xs whole_ys s none =
    normal_append kept ys s.normal s.second_normal (EndsBelow-more (min (next_of xs) (next_of ys)) (next_of ys) kept s.below (omega arith))

pub differs_none : (b : Bool) → b ≡ exactly_one false b
differs_none true = refl
differs_none false = refl

pub symmetric_first_empty : (kept xs ys whole_xs whole_ys : List (ℕ × ℕ)) → IsSymmetricStep kept xs ys whole_xs whole_ys → xs ≡ [] → (q : ℕ) → in_ranges (kept ++ ys) q ≡ exactly_one (in_ranges whole_xs q) (in_ranges whole_ys q)
symmetric_first_empty kept xs ys whole_xs whole_ys s none q =
    in_ranges-append kept ys q ∙ ap (λ b. in_ranges kept q || b) (differs_none (in_ranges ys q))
    ∙ ap (λ (l : List (ℕ × ℕ)). in_ranges kept q || exactly_one (in_ranges l q) (in_ranges ys q)) (sym none) ∙ s.same q

-- ---- the rest of one list

-- the result, and the rest after it
pub record IsFinishing (kept rest whole : List (ℕ × ℕ)) : Type 0 where
  pub normal : IsNormal (kept ++ rest)
  pub same : kept ++ rest ≡ whole

pub finishing_head : (kept xs whole : List (ℕ × ℕ)) (x : ℕ × ℕ) → IsFinishing kept (x ∷ xs) whole → (x.0 < x.1) × (x.1 ≤ pixel_count) × EndsBelow x.0 kept
finishing_head kept xs whole x s =
    let rest = IsNormal-suffix kept (x ∷ xs) s.normal in
    (rest.0, rest.1, ends_next kept (x ∷ xs) s.normal)

pub finishing_can : (kept xs whole : List (ℕ × ℕ)) → IsFinishing kept xs whole → CanAppend xs kept
finishing_can kept xs whole s = record {
  normal = IsNormal-suffix kept xs s.normal;
  built = IsNormal-prefix kept xs s.normal;
  after = ends_next kept xs s.normal;
}

pub finishing_more : (kept kept' removed rest rest' whole : List (ℕ × ℕ)) → IsFinishing kept rest whole → rest ≡ removed ++ rest' → kept' ≡ kept ++ removed → IsFinishing kept' rest' whole
finishing_more kept kept' removed rest rest' whole s parts is =
    let all : kept' ++ rest' ≡ kept ++ rest = ap (λ (k : List (ℕ × ℕ)). k ++ rest') is ∙ append_assoc kept removed rest' ∙ ap (λ (r : List (ℕ × ℕ)). kept ++ r) (sym parts) in
    record { normal = subst IsNormal (sym all) s.normal; same = all ∙ s.same }
