-- The difference of two lists of ranges, range by range.
use Rattle.std.proofs.Common.{◌≡◌, ℕ, ◌<◌, ◌≤◌, Bool, true, false, not, ◌||◌, ◌&&◌, List, [], ◌∷◌, ◌++◌, min, refl}
use Rattle.std.proofs.Common.{sym, ap, subst, ◌∙◌, arith, inl, inr, Option, None, Some}
use Rattle.std.specs.Prelude.{nat_le, nat_lt}
use Rattle.std.proofs.lemmas.Bool.{cases_lt, and_parts, and_from, leb-true, ltb-true, le-leb, lt-ltb, false≢true}
use Rattle.std.proofs.lemmas.Bool.Decides.{nat_tests}
use Rattle.moc_blocks.specs.RangeList.{IsNormal}
use Rattle.moc_blocks.specs.Lemmas.Members.{in_range, in_ranges, in_ranges-append, or_false, or_assoc, and_false}
use Rattle.moc_blocks.specs.Private.Blocks.{next_of}
use Rattle.moc_blocks.specs.Private.Built.{EndsBelow, MovesPrefix}
use Rattle.moc_operations.specs.Private.Walks.{from_current}
use Rattle.moc_blocks.specs.Private.Walks.{EndsBy, Advances}
use Rattle.moc_blocks.specs.Lemmas.Ranges.{later_only}
use Rattle.moc_blocks.proofs.Merging.{ends_next, EndsBelow-append, EndsBelow-more}
use Rattle.moc_operations.proofs.Merging.{next_of_suffix}
use Rattle.moc_blocks.proofs.Blocking.{IsNormal-suffix}
use Rattle.moc_operations.proofs.Walking.{Steps, from_current_of_steps}

-- a range of the second list that ends before the first's begins
before_first_of_difference : (a b c d q : ℕ) (later more : Bool) → q < a → later ≡ false → (((nat_le a q && nat_lt q b) || later) && not ((nat_le c q && nat_lt q d) || more)) ≡ (((nat_le a q && nat_lt q b) || later) && not more)
before_first_of_difference a b c d q later more lt none = grind (arith, nat_tests)

after_second_of_difference : (a b c d q : ℕ) (later more : Bool) → d ≤ a → a ≤ q → (((nat_le a q && nat_lt q b) || later) && not ((nat_le c q && nat_lt q d) || more)) ≡ (((nat_le a q && nat_lt q b) || later) && not more)
after_second_of_difference a b c d q later more le ge = grind (arith, nat_tests)

pub difference_skip_second : (x y : ℕ × ℕ) (xs ys : List (ℕ × ℕ)) (q : ℕ) → IsNormal (x ∷ xs) → y.1 ≤ x.0 → (in_ranges (x ∷ xs) q && not (in_ranges (y ∷ ys) q)) ≡ (in_ranges (x ∷ xs) q && not (in_ranges ys q))
difference_skip_second x y xs ys q nx le = elim (cases_lt q x.0) [
  | inl lt ↦ before_first_of_difference x.0 x.1 y.0 y.1 q (in_ranges xs q) (in_ranges ys q) lt (later_only x.1 q xs nx.3 nx.2 (omega (arith, nx.0)))
  | inr ge ↦ after_second_of_difference x.0 x.1 y.0 y.1 q (in_ranges xs q) (in_ranges ys q) le ge
]

-- a range of the first list that extends past a range of the second
trimmed_until_end : (a b c d to q : ℕ) (later more : Bool) → d < b → c < d → to ≡ min b c → q < d → later ≡ false → more ≡ false → (((nat_le a q && nat_lt q b) || later) && not ((nat_le c q && nat_lt q d) || more)) ≡ ((nat_le a q && nat_lt q to) || (((nat_le d q && nat_lt q b) || later) && not more))
trimmed_until_end a b c d to q later more db cd is lt nl nm = grind (arith, nat_tests)

trimmed_from_end : (a b c d to q : ℕ) (later more : Bool) → a < d → c < d → to ≡ min b c → d ≤ q → (((nat_le a q && nat_lt q b) || later) && not ((nat_le c q && nat_lt q d) || more)) ≡ ((nat_le a q && nat_lt q to) || (((nat_le d q && nat_lt q b) || later) && not more))
trimmed_from_end a b c d to q later more ad cd is ge = grind (arith, nat_tests)

pub difference_of_trimmed : (x y : ℕ × ℕ) (xs ys : List (ℕ × ℕ)) (to q : ℕ) → IsNormal (x ∷ xs) → IsNormal (y ∷ ys) → x.0 < y.1 → y.1 < x.1 → to ≡ min x.1 y.0 → (in_ranges (x ∷ xs) q && not (in_ranges (y ∷ ys) q)) ≡ (in_range (x.0, to) q || (in_ranges ((y.1, x.1) ∷ xs) q && not (in_ranges ys q)))
difference_of_trimmed x y xs ys to q nx ny lookahead ends is = elim (cases_lt q y.1) [
  | inl lt ↦ trimmed_until_end x.0 x.1 y.0 y.1 to q (in_ranges xs q) (in_ranges ys q) ends ny.0 is lt (later_only x.1 q xs nx.3 nx.2 (omega arith)) (later_only y.1 q ys ny.3 ny.2 (omega arith))
  | inr ge ↦ trimmed_from_end x.0 x.1 y.0 y.1 to q (in_ranges xs q) (in_ranges ys q) lookahead ny.0 is ge
]

-- a range of the first list that ends first
in_both_until_minimum : (a b c d to q : ℕ) (later more : Bool) → b ≤ d → to ≡ min b c → q < b → later ≡ false → more ≡ false → (((nat_le a q && nat_lt q b) || later) && not ((nat_le c q && nat_lt q d) || more)) ≡ ((nat_le a q && nat_lt q to) || (later && not ((nat_le c q && nat_lt q d) || more)))
in_both_until_minimum a b c d to q later more bd is lt nl nm = grind (arith, nat_tests)

in_both_from_minimum : (a b c d to q : ℕ) (later more : Bool) → to ≡ min b c → b ≤ q → (((nat_le a q && nat_lt q b) || later) && not ((nat_le c q && nat_lt q d) || more)) ≡ ((nat_le a q && nat_lt q to) || (later && not ((nat_le c q && nat_lt q d) || more)))
in_both_from_minimum a b c d to q later more is ge = grind (arith, nat_tests)

pub removed : (x y : ℕ × ℕ) (xs ys : List (ℕ × ℕ)) (to q : ℕ) → IsNormal (x ∷ xs) → IsNormal (y ∷ ys) → x.1 ≤ y.1 → to ≡ min x.1 y.0 → (in_ranges (x ∷ xs) q && not (in_ranges (y ∷ ys) q)) ≡ (in_range (x.0, to) q || (in_ranges xs q && not (in_ranges (y ∷ ys) q)))
removed x y xs ys to q nx ny ends is = elim (cases_lt q x.1) [
  | inl lt ↦ in_both_until_minimum x.0 x.1 y.0 y.1 to q (in_ranges xs q) (in_ranges ys q) ends is lt (later_only x.1 q xs nx.3 nx.2 (omega arith)) (later_only y.1 q ys ny.3 ny.2 (omega arith))
  | inr ge ↦ in_both_from_minimum x.0 x.1 y.0 y.1 to q (in_ranges xs q) (in_ranges ys q) is ge
]

and_distributes_true : (a b : Bool) → ((a || b) && true) ≡ (a || (b && true))
and_distributes_true true b = refl
and_distributes_true false b = refl

-- the invariant of a difference
pub record IsDifferenceStep (ks xs ys whole_xs whole_ys : List (ℕ × ℕ)) : Type 0 where
  pub built : IsNormal ks
  pub first_normal : IsNormal xs
  pub second_normal : IsNormal ys
  pub below : EndsBelow (next_of xs) ks
  pub same : (q : ℕ) → (in_ranges ks q || (in_ranges xs q && not (in_ranges ys q))) ≡ (in_ranges whole_xs q && not (in_ranges whole_ys q))

pub difference_begin : (ks xs ys u : List (ℕ × ℕ)) (s : Option (ℕ × ℕ)) → ks ≡ [] → IsNormal xs → IsNormal ys → Steps ys s u → IsDifferenceStep ks xs (from_current s u) xs ys
difference_begin ks xs ys u s n nx ny su =
    let by = from_current_of_steps ys s u su in
    let start : IsDifferenceStep [] xs ys xs ys = record {
      built = tt;
      first_normal = nx;
      second_normal = ny;
      below = tt;
      same = λ q. refl;
    } in
    subst (λ (l : List (ℕ × ℕ)). IsDifferenceStep ks xs l xs ys) (sym by) (rw n start)

pub difference_trim : (ks ks' xs ys t whole_xs whole_ys : List (ℕ × ℕ)) (x y : ℕ × ℕ) (to : ℕ) (r : Option (ℕ × ℕ)) → IsDifferenceStep ks (x ∷ xs) (y ∷ ys) whole_xs whole_ys → x.0 < y.1 → y.1 < x.1 → to ≡ min x.1 y.0 → IsNormal ks' → ((f : ℕ) → x.0 ≤ f → to < f → EndsBelow f ks') → ((q : ℕ) → in_ranges ks' q ≡ (in_ranges ks q || in_range (x.0, to) q)) → Steps ys r t → IsDifferenceStep ks' ((y.1, x.1) ∷ xs) (from_current r t) whole_xs whole_ys
difference_trim ks ks' xs ys t whole_xs whole_ys x y to r l lookahead ends is built below same e =
    let b = from_current_of_steps ys r t e in
    let filled : y.0 < y.1 = l.second_normal.0 in
    subst (λ (k : List (ℕ × ℕ)). IsDifferenceStep ks' ((y.1, x.1) ∷ xs) k whole_xs whole_ys) (sym b) (record {
      built = built;
      first_normal = (ends, l.first_normal.1, l.first_normal.2, l.first_normal.3);
      second_normal = l.second_normal.3;
      below = below y.1 (omega arith) (omega (arith, is));
      same = λ q. ap (λ k. k || (in_ranges ((y.1, x.1) ∷ xs) q && not (in_ranges ys q))) (same q)
          ∙ or_assoc (in_ranges ks q) (in_range (x.0, to) q) (in_ranges ((y.1, x.1) ∷ xs) q && not (in_ranges ys q))
          ∙ ap (λ k. in_ranges ks q || k) (sym (difference_of_trimmed x y xs ys to q l.first_normal l.second_normal lookahead ends is))
          ∙ l.same q;
    })

pub range_from : (r : ℕ × ℕ) (q : ℕ) → in_range r q ≡ true → (r.0 ≤ q) × (q < r.1)
range_from r q e = let parts = and_parts (nat_le r.0 q) (nat_lt q r.1) e in (leb-true r.0 q parts.0, ltb-true q r.1 parts.1)

pub in_range_by_bounds : (r : ℕ × ℕ) (q : ℕ) → r.0 ≤ q → q < r.1 → in_range r q ≡ true
in_range_by_bounds r q low high = and_from (nat_le r.0 q) (nat_lt q r.1) (le-leb r.0 q low) (lt-ltb q r.1 high)

before_one : (a b q : ℕ) (later : Bool) → q < a → later ≡ false → ((nat_le a q && nat_lt q b) || later) ≡ false
before_one a b q later lt none = grind (arith, nat_tests)

pub none_before : (ys : List (ℕ × ℕ)) (q : ℕ) → IsNormal ys → q < next_of ys → in_ranges ys q ≡ false
none_before [] q normal lt = refl
none_before (y ∷ ys) q normal lt =
    let later = later_only y.1 q ys normal.3 normal.2 (omega (arith, normal.0)) in
    before_one y.0 y.1 q (in_ranges ys q) lt later

or_difference_after_move : (r all ys removed xs : Bool) → (all && not ys) ≡ (removed || (xs && not ys)) → (r ≡ true → ys ≡ false) → ((r || all) && not ys) ≡ ((r || removed) || (xs && not ys))
or_difference_after_move true all ys removed xs rest alone = ap not (alone refl)
or_difference_after_move false all ys removed xs rest alone = rest

difference_after_advance : (r xs y ys all : Bool) → (xs && not (y || ys)) ≡ (all && not (y || ys)) → (r ≡ true → y ≡ true) → (xs && not (y || ys)) ≡ ((r || all) && not (y || ys))
difference_after_advance false xs y ys all rest inside = rest
difference_after_advance true xs true ys all rest inside = and_false xs
difference_after_advance true xs false ys all rest inside = absurd (false≢true (inside refl))

-- blocks of the first list that end before the second's next range were appended whole
difference_after_move : (removed xs ys : List (ℕ × ℕ)) (q : ℕ) → IsNormal (removed ++ xs) → IsNormal ys → EndsBelow (next_of ys) removed
    → (in_ranges (removed ++ xs) q && not (in_ranges ys q)) ≡ (in_ranges removed q || (in_ranges xs q && not (in_ranges ys q)))
difference_after_move [] xs ys q normal other below = refl
difference_after_move (r ∷ removed) xs ys q normal other below =
    let rest = difference_after_move removed xs ys q normal.3 other below.1 in
    let alone : in_range r q ≡ true → in_ranges ys q ≡ false = λ here. none_before ys q other (omega (arith, below.0, (range_from r q here).1)) in
    or_difference_after_move (in_range r q) (in_ranges (removed ++ xs) q) (in_ranges ys q) (in_ranges removed q) (in_ranges xs q) rest alone

pub difference_step_after_move : (ks ks' xs xs' ys whole_xs whole_ys : List (ℕ × ℕ)) (limit : ℕ) → IsDifferenceStep ks xs ys whole_xs whole_ys → limit ≡ next_of ys → MovesPrefix xs xs' limit ks ks' → IsDifferenceStep ks' xs' ys whole_xs whole_ys
difference_step_after_move ks ks' xs xs' ys whole_xs whole_ys limit l is c =
    let normal = subst IsNormal c.parts l.first_normal in
    let later = next_of_suffix c.removed xs' normal in
    record {
      built = c.built;
      first_normal = IsNormal-suffix c.removed xs' normal;
      second_normal = l.second_normal;
      below = subst (λ (k : List (ℕ × ℕ)). EndsBelow (next_of xs') k) (sym c.kept)
          (EndsBelow-append (next_of xs') ks c.removed
          (EndsBelow-more (next_of xs) (next_of xs') ks l.below (omega (arith, ap next_of c.parts, later))) (ends_next c.removed xs' normal));
      same = λ q. ap (λ k. k || (in_ranges xs' q && not (in_ranges ys q))) (ap (λ (k : List (ℕ × ℕ)). in_ranges k q) c.kept ∙ in_ranges-append ks c.removed q)
          ∙ or_assoc (in_ranges ks q) (in_ranges c.removed q) (in_ranges xs' q && not (in_ranges ys q))
          ∙ ap (λ k. in_ranges ks q || k)
          (sym (difference_after_move c.removed xs' ys q normal l.second_normal (subst (λ f. EndsBelow f c.removed) is c.below))
          ∙ ap (λ (k : List (ℕ × ℕ)). in_ranges k q && not (in_ranges ys q)) (sym c.parts))
          ∙ l.same q;
    }

-- ranges of the first list that are inside the second's next range were skipped
contains_after_skip : (removed xs : List (ℕ × ℕ)) (y : ℕ × ℕ) (ys : List (ℕ × ℕ)) (q : ℕ) → IsNormal (removed ++ xs) → EndsBy y.1 removed → y.0 ≤ next_of (removed ++ xs)
    → (in_ranges xs q && not (in_ranges (y ∷ ys) q)) ≡ (in_ranges (removed ++ xs) q && not (in_ranges (y ∷ ys) q))
contains_after_skip [] xs y ys q normal ended later = refl
contains_after_skip (r ∷ removed) xs y ys q normal ended later =
    let next : r.1 < next_of (removed ++ xs) = (ends_next (r ∷ []) (removed ++ xs) normal).0 in
    let rest = contains_after_skip removed xs y ys q normal.3 ended.1 (omega (arith, normal.0, later, next)) in
    let inside : in_range r q ≡ true → in_range y q ≡ true = λ here.
    let at = range_from r q here in in_range_by_bounds y q (omega (arith, at.0, later)) (omega (arith, at.1, ended.0)) in
    difference_after_advance (in_range r q) (in_ranges xs q) (in_range y q) (in_ranges ys q) (in_ranges (removed ++ xs) q) rest inside

pub difference_step_after_advance : (ks xs ys t whole_xs whole_ys : List (ℕ × ℕ)) (y : ℕ × ℕ) (r : Option (ℕ × ℕ)) (n : ℕ) → IsDifferenceStep ks xs (y ∷ ys) whole_xs whole_ys → y.0 ≤ next_of xs → Advances y xs t r n → IsDifferenceStep ks (from_current r t) (y ∷ ys) whole_xs whole_ys
difference_step_after_advance ks xs ys t whole_xs whole_ys y r n l from a =
    let b = from_current_of_steps a.rest r t a.step in
    let parts = a.passed.parts in
    let normal = subst IsNormal parts l.first_normal in
    let later = next_of_suffix a.passed.removed a.rest normal in
    subst (λ (k : List (ℕ × ℕ)). IsDifferenceStep ks k (y ∷ ys) whole_xs whole_ys) (sym b) (record {
      built = l.built;
      first_normal = IsNormal-suffix a.passed.removed a.rest normal;
      second_normal = l.second_normal;
      below = EndsBelow-more (next_of xs) (next_of a.rest) ks l.below (omega (arith, ap next_of parts, later));
      same = λ q. ap (λ k. in_ranges ks q || k)
          (contains_after_skip a.passed.removed a.rest y ys q normal a.passed.ended (omega (arith, from, ap next_of parts))
          ∙ ap (λ (k : List (ℕ × ℕ)). in_ranges k q && not (in_ranges (y ∷ ys) q)) (sym parts))
          ∙ l.same q;
    })

-- ranges of the second list that end before the first's next range were skipped
skipped_has : (removed ys : List (ℕ × ℕ)) (x : ℕ × ℕ) (xs : List (ℕ × ℕ)) (q : ℕ) → IsNormal (x ∷ xs) → EndsBy x.0 removed
    → (in_ranges (x ∷ xs) q && not (in_ranges (removed ++ ys) q)) ≡ (in_ranges (x ∷ xs) q && not (in_ranges ys q))
skipped_has [] ys x xs q normal ended = refl
skipped_has (y ∷ removed) ys x xs q normal ended = difference_skip_second x y xs (removed ++ ys) q normal ended.0 ∙ skipped_has removed ys x xs q normal ended.1

pub difference_skipped : (ks xs ys t whole_xs whole_ys : List (ℕ × ℕ)) (x y : ℕ × ℕ) (f r : Option (ℕ × ℕ)) (n : ℕ) → IsDifferenceStep ks (x ∷ xs) (y ∷ ys) whole_xs whole_ys → f ≡ Some x → y.1 ≤ x.0 → Advances (x.0, x.0) ys t r n → IsDifferenceStep ks (from_current f xs) (from_current r t) whole_xs whole_ys
difference_skipped ks xs ys t whole_xs whole_ys x y f r n l is le a =
    let b = from_current_of_steps a.rest r t a.step in
    let c : from_current f xs ≡ x ∷ xs = ap (λ o. from_current o xs) is in
    let parts = a.passed.parts in
    subst (λ (k : List (ℕ × ℕ)). IsDifferenceStep ks k (from_current r t) whole_xs whole_ys) (sym c)
    (subst (λ (k : List (ℕ × ℕ)). IsDifferenceStep ks (x ∷ xs) k whole_xs whole_ys) (sym b) (record {
      built = l.built;
      first_normal = l.first_normal;
      second_normal = IsNormal-suffix a.passed.removed a.rest (subst IsNormal parts l.second_normal.3);
      below = l.below;
      same = λ q. ap (λ k. in_ranges ks q || k)
          (sym (skipped_has a.passed.removed a.rest x xs q l.first_normal a.passed.ended)
          ∙ ap (λ (k : List (ℕ × ℕ)). in_ranges (x ∷ xs) q && not (in_ranges k q)) (sym parts)
          ∙ sym (difference_skip_second x y xs ys q l.first_normal le)) ∙ l.same q;
    }))

-- the part of the first list's next range before the second's was appended
pub difference_step_after_range : (ks ks' xs ys whole_xs whole_ys : List (ℕ × ℕ)) (x y : ℕ × ℕ) (to : ℕ) → IsDifferenceStep ks (x ∷ xs) (y ∷ ys) whole_xs whole_ys → x.1 ≤ y.1 → to ≡ min x.1 y.0 → IsNormal ks' → ((f : ℕ) → x.0 ≤ f → to < f → EndsBelow f ks') → ((q : ℕ) → in_ranges ks' q ≡ (in_ranges ks q || in_range (x.0, to) q)) → IsDifferenceStep ks' xs (y ∷ ys) whole_xs whole_ys
difference_step_after_range ks ks' xs ys whole_xs whole_ys x y to l ends is built below same =
    let next : x.1 < next_of xs = (ends_next (x ∷ []) xs l.first_normal).0 in
    let filled : x.0 < x.1 = l.first_normal.0 in
    record {
      built = built;
      first_normal = l.first_normal.3;
      second_normal = l.second_normal;
      below = below (next_of xs) (omega arith) (omega (arith, is));
      same = λ q. ap (λ k. k || (in_ranges xs q && not (in_ranges (y ∷ ys) q))) (same q)
          ∙ or_assoc (in_ranges ks q) (in_range (x.0, to) q) (in_ranges xs q && not (in_ranges (y ∷ ys) q))
          ∙ ap (λ k. in_ranges ks q || k) (sym (removed x y xs ys to q l.first_normal l.second_normal ends is))
          ∙ l.same q;
    }

-- the second list has no more ranges
pub difference_all : (ks ks' xs ys whole_xs whole_ys : List (ℕ × ℕ)) (x : ℕ × ℕ) (s : Option (ℕ × ℕ)) → IsDifferenceStep ks (x ∷ xs) (from_current s ys) whole_xs whole_ys → s ≡ None → IsNormal ks' → ((f : ℕ) → x.0 ≤ f → x.1 < f → EndsBelow f ks') → ((q : ℕ) → in_ranges ks' q ≡ (in_ranges ks q || in_range (x.0, x.1) q)) → IsDifferenceStep ks' xs [] whole_xs whole_ys
difference_all ks ks' xs ys whole_xs whole_ys x s from none built below same =
    let empty : from_current s ys ≡ [] = ap (λ o. from_current o ys) none in
    let l = subst (λ (k : List (ℕ × ℕ)). IsDifferenceStep ks (x ∷ xs) k whole_xs whole_ys) empty from in
    let next : x.1 < next_of xs = (ends_next (x ∷ []) xs l.first_normal).0 in
    let filled : x.0 < x.1 = l.first_normal.0 in
    record {
      built = built;
      first_normal = l.first_normal.3;
      second_normal = tt;
      below = below (next_of xs) (omega arith) next;
      same = λ q. ap (λ k. k || (in_ranges xs q && not (in_ranges [] q))) (same q)
          ∙ or_assoc (in_ranges ks q) (in_range (x.0, x.1) q) (in_ranges xs q && not (in_ranges [] q))
          ∙ ap (λ k. in_ranges ks q || k) (sym (and_distributes_true (in_range x q) (in_ranges xs q)))
          ∙ l.same q;
    }

pub difference_complete : (ks xs ys whole_xs whole_ys : List (ℕ × ℕ)) (f : Option (ℕ × ℕ)) → IsDifferenceStep ks (from_current f xs) ys whole_xs whole_ys → f ≡ None → (q : ℕ) → in_ranges ks q ≡ (in_ranges whole_xs q && not (in_ranges whole_ys q))
difference_complete ks xs ys whole_xs whole_ys f s none q =
    sym (or_false (in_ranges ks q))
    ∙ (λ i. in_ranges ks q || (in_ranges (from_current (sym none i) xs) q && not (in_ranges ys q))) ∙ s.same q
