-- The intersection of two lists of ranges, range by range.
use Rattle.std.proofs.Common.{◌≡◌, ℕ, ◌+◌, ◌<◌, ◌≤◌, Bool, true, false, ◌||◌, ◌&&◌, List, [], ◌∷◌, ◌++◌, min, max}
use Rattle.std.proofs.Common.{refl, sym, ap, subst, ◌∙◌, arith, inl, inr, Option, None}
use Rattle.std.specs.Prelude.{nat_le, nat_lt}
use Rattle.std.proofs.lemmas.Bool.{cases_lt, or_cases, and_parts, leb-true, ltb-true}
use Rattle.std.proofs.lemmas.Bool.Decides.{nat_tests}
use Rattle.moc_blocks.specs.RangeList.{IsNormal, BeginsAfter}
use Rattle.moc_blocks.specs.Lemmas.Members.{in_range, in_ranges, in_ranges-append, or_false, or_assoc, and_false}
use Rattle.moc_blocks.specs.Private.Blocks.{next_of}
use Rattle.moc_blocks.specs.Private.Built.{EndsBelow, MovesPrefix}
use Rattle.moc_operations.specs.Private.Taking.{MovesCommon}
use Rattle.moc_operations.specs.Private.Meeting.{IsAscending}
use Rattle.moc_operations.specs.Private.Walks.{from_current}
use Rattle.moc_blocks.specs.Private.Walks.{EndsBy, Advances, Skips}
use Rattle.moc_operations.proofs.Merging.{next_of_suffix}
use Rattle.moc_blocks.proofs.Merging.{ends_next, EndsBelow-append, EndsBelow-more}
use Rattle.moc_blocks.proofs.Blocking.{IsNormal-suffix}
use Rattle.moc_blocks.proofs.Passing.{ends_by_more}
use Rattle.moc_operations.proofs.MovedBlocks.{ends_below_after_move}
use Rattle.moc_operations.proofs.Walking.{and_swap, from_current_of_steps}

inside : (a b c d from to q : ℕ) (later more : Bool) → b ≤ d → from ≡ max a c → to ≡ min b d → q < b → more ≡ false → (((nat_le a q && nat_lt q b) || later) && ((nat_le c q && nat_lt q d) || more)) ≡ ((nat_le from q && nat_lt q to) || (later && ((nat_le c q && nat_lt q d) || more)))
inside a b c d from to q later more ends f w lt none = grind (arith, nat_tests)

common_past_first_end : (a b c d from to q : ℕ) (later more : Bool) → b ≤ d → from ≡ max a c → to ≡ min b d → b ≤ q → (((nat_le a q && nat_lt q b) || later) && ((nat_le c q && nat_lt q d) || more)) ≡ ((nat_le from q && nat_lt q to) || (later && ((nat_le c q && nat_lt q d) || more)))
common_past_first_end a b c d from to q later more ends f w ge = grind (arith, nat_tests)

in_empty_range : (from to q : ℕ) (k : Bool) → to ≤ from → k ≡ (k || (nat_le from q && nat_lt q to))
in_empty_range from to q k le = grind (arith, nat_tests)

pub ascending_of_normal : (rs : List (ℕ × ℕ)) → IsNormal rs → IsAscending rs
ascending_of_normal [] normal = tt
ascending_of_normal (r ∷ rs) normal = (omega (arith, normal.0), normal.2, ascending_of_normal rs normal.3)

-- a number before the start of an ascending list is in none of its ranges
pub none_before_start : (x q : ℕ) (ranges : List (ℕ × ℕ)) → IsAscending ranges → BeginsAfter x ranges → q ≤ x → in_ranges ranges q ≡ false
none_before_start x q [] ascending after le = refl
none_before_start x q (range ∷ ranges) ascending after le = let rest = none_before_start range.1 q ranges ascending.2 ascending.1 (omega arith) in grind (arith, nat_tests)

-- the common part of a range and another that ends no sooner was appended
pub ascending_overlap : (x y : ℕ × ℕ) (xs ys : List (ℕ × ℕ)) (from to q : ℕ) → IsAscending (y ∷ ys) → x.1 ≤ y.1 → from ≡ max x.0 y.0 → to ≡ min x.1 y.1 → (in_ranges (x ∷ xs) q && in_ranges (y ∷ ys) q) ≡ (in_range (from, to) q || (in_ranges xs q && in_ranges (y ∷ ys) q))
ascending_overlap x y xs ys from to q ry ends f t = elim (cases_lt q x.1) [
  | inl lt ↦ inside x.0 x.1 y.0 y.1 from to q (in_ranges xs q) (in_ranges ys q) ends f t lt (none_before_start y.1 q ys ry.2 ry.1 (omega arith))
  | inr ge ↦ common_past_first_end x.0 x.1 y.0 y.1 from to q (in_ranges xs q) (in_ranges ys q) ends f t ge
]

pub common_of_ranges : (x y : ℕ × ℕ) (xs ys : List (ℕ × ℕ)) (from to q : ℕ) → IsNormal (y ∷ ys) → x.1 ≤ y.1 → from ≡ max x.0 y.0 → to ≡ min x.1 y.1 → (in_ranges (x ∷ xs) q && in_ranges (y ∷ ys) q) ≡ (in_range (from, to) q || (in_ranges xs q && in_ranges (y ∷ ys) q))
common_of_ranges x y xs ys from to q ny ends f t = ascending_overlap x y xs ys from to q (ascending_of_normal (y ∷ ys) ny) ends f t

pub pieces_back : (x y : ℕ × ℕ) (xs ys : List (ℕ × ℕ)) (from to q : ℕ) → IsNormal (x ∷ xs) → y.1 ≤ x.1 → from ≡ max x.0 y.0 → to ≡ min x.1 y.1 → (in_ranges (x ∷ xs) q && in_ranges (y ∷ ys) q) ≡ (in_range (from, to) q || (in_ranges (x ∷ xs) q && in_ranges ys q))
pieces_back x y xs ys from to q nx ends f t =
    and_swap (in_ranges (x ∷ xs) q) (in_ranges (y ∷ ys) q)
    ∙ common_of_ranges y x ys xs from to q nx ends (omega (arith, f)) (omega (arith, t))
    ∙ ap (λ b. in_range (from, to) q || b) (and_swap (in_ranges ys q) (in_ranges (x ∷ xs) q))

-- the invariant of an intersection
pub record IsIntersectionStep (ks xs ys whole_xs whole_ys : List (ℕ × ℕ)) : Type 0 where
  pub built : IsNormal ks
  pub first_normal : IsNormal xs
  pub second_normal : IsNormal ys
  pub below : EndsBelow (max (next_of xs) (next_of ys)) ks
  pub same : (q : ℕ) → (in_ranges ks q || (in_ranges xs q && in_ranges ys q)) ≡ (in_ranges whole_xs q && in_ranges whole_ys q)

-- the common part of the first list's next range and the second's was appended
pub intersection_step_after_range : (ks ks' xs ys whole_xs whole_ys : List (ℕ × ℕ)) (x y : ℕ × ℕ) → IsIntersectionStep ks (x ∷ xs) (y ∷ ys) whole_xs whole_ys → x.1 ≤ y.1 → IsNormal ks' → ((f : ℕ) → max x.0 y.0 ≤ f → min x.1 y.1 < f → EndsBelow f ks') → ((q : ℕ) → in_ranges ks' q ≡ (in_ranges ks q || in_range (max x.0 y.0, min x.1 y.1) q)) → IsIntersectionStep ks' xs (y ∷ ys) whole_xs whole_ys
intersection_step_after_range ks ks' xs ys whole_xs whole_ys x y s ends built below same =
    let next : x.1 < next_of xs = (ends_next (x ∷ []) xs s.first_normal).0 in
    let filled : x.0 < x.1 = s.first_normal.0 in
    record {
      built = built;
      first_normal = s.first_normal.3;
      second_normal = s.second_normal;
      below = below (max (next_of xs) y.0) (omega arith) (omega arith);
      same = λ q. ap (λ k. k || (in_ranges xs q && in_ranges (y ∷ ys) q)) (same q)
          ∙ or_assoc (in_ranges ks q) (in_range (max x.0 y.0, min x.1 y.1) q) (in_ranges xs q && in_ranges (y ∷ ys) q)
          ∙ ap (λ k. in_ranges ks q || k) (sym (common_of_ranges x y xs ys (max x.0 y.0) (min x.1 y.1) q s.second_normal ends refl refl))
          ∙ s.same q;
    }

pub intersection_swap : (ks xs ys whole_xs whole_ys : List (ℕ × ℕ)) → IsIntersectionStep ks xs ys whole_xs whole_ys → IsIntersectionStep ks ys xs whole_ys whole_xs
intersection_swap ks xs ys whole_xs whole_ys s = record {
  built = s.built;
  first_normal = s.second_normal;
  second_normal = s.first_normal;
  below = EndsBelow-more (max (next_of xs) (next_of ys)) (max (next_of ys) (next_of xs)) ks s.below (omega arith);
  same = λ q. ap (λ k. in_ranges ks q || k) (and_swap (in_ranges ys q) (in_ranges xs q)) ∙ s.same q ∙ and_swap (in_ranges whole_xs q) (in_ranges whole_ys q);
}

-- the common part of the second list's next range and the first's was appended
pub intersection_step_swapped : (ks ks' xs ys whole_xs whole_ys : List (ℕ × ℕ)) (x y : ℕ × ℕ) → IsIntersectionStep ks (x ∷ xs) (y ∷ ys) whole_xs whole_ys → y.1 ≤ x.1 → IsNormal ks' → ((f : ℕ) → max x.0 y.0 ≤ f → min x.1 y.1 < f → EndsBelow f ks') → ((q : ℕ) → in_ranges ks' q ≡ (in_ranges ks q || in_range (max x.0 y.0, min x.1 y.1) q)) → IsIntersectionStep ks' ys (x ∷ xs) whole_ys whole_xs
intersection_step_swapped ks ks' xs ys whole_xs whole_ys x y s ends built below same =
    let from : max x.0 y.0 ≡ max y.0 x.0 = omega arith in
    let to : min x.1 y.1 ≡ min y.1 x.1 = omega arith in
    intersection_step_after_range ks ks' ys xs whole_ys whole_xs y x (intersection_swap ks (x ∷ xs) (y ∷ ys) whole_xs whole_ys s) ends built
    (λ f le lt. below f (omega arith) (omega arith)) (λ q. same q ∙ (λ i. in_ranges ks q || in_range (from i, to i) q))

ends_by_in : (limit : ℕ) (rs : List (ℕ × ℕ)) (q : ℕ) → EndsBy limit rs → in_ranges rs q ≡ true → q < limit
ends_by_in limit [] q ended e = absurd (cc)
ends_by_in limit (r ∷ rs) q ended e = elim (or_cases (in_range r q) (in_ranges rs q) e) [
  | inl here ↦ let parts = and_parts (nat_le r.0 q) (nat_lt q r.1) here in let lt : q < r.1 = ltb-true q r.1 parts.1 in omega (arith, ended.0)
  | inr later ↦ ends_by_in limit rs q ended.1 later
]

common_after_advance : (g x y m : Bool) → (g ≡ true → m ≡ false) → ((g || x) && (y || m)) ≡ ((g && y) || (x && (y || m)))
common_after_advance false x y m none = refl
common_after_advance true x true m none = refl
common_after_advance true true false m none = refl
common_after_advance true false false m none = none refl

pub common_parts : (removed xs ys : List (ℕ × ℕ)) (y : ℕ × ℕ) (q : ℕ) → IsAscending (y ∷ ys) → EndsBy y.1 removed → (in_ranges (removed ++ xs) q && in_ranges (y ∷ ys) q) ≡ ((in_ranges removed q && in_range y q) || (in_ranges xs q && in_ranges (y ∷ ys) q))
common_parts removed xs ys y q ascending ended =
    ap (λ b. b && in_ranges (y ∷ ys) q) (in_ranges-append removed xs q)
    ∙ common_after_advance (in_ranges removed q) (in_ranges xs q) (in_range y q) (in_ranges ys q)
    (λ here. let lt : q < y.1 = ends_by_in y.1 removed q ended here in none_before_start y.1 q ys ascending.2 ascending.1 (omega arith))

-- the common parts of more ranges of the first list and the second's next range were appended
pub intersection_taken : (ks ks' xs xs' ys whole_xs whole_ys : List (ℕ × ℕ)) (y : ℕ × ℕ) → IsIntersectionStep ks xs (y ∷ ys) whole_xs whole_ys → MovesCommon xs xs' y ks ks' → IsIntersectionStep ks' xs' (y ∷ ys) whole_xs whole_ys
intersection_taken ks ks' xs xs' ys whole_xs whole_ys y s t = record {
  built = t.built;
  first_normal = IsNormal-suffix t.removed xs' (subst IsNormal t.parts s.first_normal);
  second_normal = s.second_normal;
  below = t.below;
  same = λ q. ap (λ k. k || (in_ranges xs' q && in_ranges (y ∷ ys) q)) (t.same q)
      ∙ or_assoc (in_ranges ks q) (in_ranges t.removed q && in_range y q) (in_ranges xs' q && in_ranges (y ∷ ys) q)
      ∙ ap (λ k. in_ranges ks q || k) (sym (common_parts t.removed xs' ys y q (ascending_of_normal (y ∷ ys) s.second_normal) t.ended) ∙ ap (λ (l : List (ℕ × ℕ)). in_ranges l q && in_ranges (y ∷ ys) q) (sym t.parts))
      ∙ s.same q;
}

-- ranges that end before a range begins have nothing in common with it
unchanged_by_empty_and : (k g y : Bool) → (g ≡ true → y ≡ false) → k ≡ (k || (g && y))
unchanged_by_empty_and true g y none = refl
unchanged_by_empty_and false true y none = sym (none refl)
unchanged_by_empty_and false false y none = refl

before_range : (y : ℕ × ℕ) (q : ℕ) → q < y.0 → in_range y q ≡ false
before_range y q lt = grind (arith, nat_tests)

ends_by-below : (limit : ℕ) (rs : List (ℕ × ℕ)) → EndsBelow (limit + 1) rs → EndsBy limit rs
ends_by-below limit [] below = tt
ends_by-below limit (r ∷ rs) below = (omega (arith, below.0), ends_by-below limit rs below.1)

pub moves_common_at_end : (ks xs xs' removed : List (ℕ × ℕ)) (y : ℕ × ℕ) → IsNormal xs → y.0 ≤ y.1 → IsNormal ks → EndsBelow (max (next_of xs) y.0) ks → xs ≡ removed ++ xs' → EndsBy y.0 removed → MovesCommon xs xs' y ks ks
moves_common_at_end ks xs xs' removed y normal increases built after parts ended =
    let whole = subst IsNormal parts normal in
    record {
      removed = removed;
      parts = parts;
      ended = ends_by_more y.0 y.1 removed increases ended;
      built = built;
      below = EndsBelow-more (max (next_of xs) y.0) (max (next_of xs') y.0) ks after (omega (arith, ap next_of parts, next_of_suffix removed xs' whole));
      same = λ q. unchanged_by_empty_and (in_ranges ks q) (in_ranges removed q) (in_range y q) (λ here. before_range y q (ends_by_in y.0 removed q ended here));
    }

pub moves_common_by_skip : (ks xs xs' : List (ℕ × ℕ)) (y : ℕ × ℕ) (n : ℕ) → IsNormal xs → y.0 ≤ y.1 → IsNormal ks → EndsBelow (max (next_of xs) y.0) ks → Skips (y.0, y.0) xs xs' n → MovesCommon xs xs' y ks ks
moves_common_by_skip ks xs xs' y n normal increases built after p = moves_common_at_end ks xs xs' p.removed y normal increases built after p.parts p.ended

pub moves_common_by_advance : (ks xs t : List (ℕ × ℕ)) (y : ℕ × ℕ) (r : Option (ℕ × ℕ)) (n : ℕ) → IsNormal xs → y.0 ≤ y.1 → IsNormal ks → EndsBelow (max (next_of xs) y.0) ks → Advances (y.0, y.0) xs t r n → MovesCommon xs (from_current r t) y ks ks
moves_common_by_advance ks xs t y r n normal increases built after a =
    subst (λ (l : List (ℕ × ℕ)). MovesCommon xs l y ks ks) (sym (from_current_of_steps a.rest r t a.step)) (moves_common_by_skip ks xs a.rest y n normal increases built after a.passed)

inside_bool : (k g y : Bool) → (g ≡ true → y ≡ true) → (k || g) ≡ (k || (g && y))
inside_bool true g y all = refl
inside_bool false true y all = sym (all refl)
inside_bool false false y all = refl

pub normal_from : (rs ss : List (ℕ × ℕ)) (q : ℕ) → IsNormal (rs ++ ss) → in_ranges rs q ≡ true → next_of (rs ++ ss) ≤ q
normal_from [] ss q normal e = absurd (cc)
normal_from (r ∷ rs) ss q normal e = elim (or_cases (in_range r q) (in_ranges rs q) e) [
  | inl here ↦ let parts = and_parts (nat_le r.0 q) (nat_lt q r.1) here in leb-true r.0 q parts.0
  | inr later ↦
      let next : r.1 < next_of (rs ++ ss) = (ends_next (r ∷ []) (rs ++ ss) normal).0 in
      let low = normal_from rs ss q normal.3 later in
      omega (arith, normal.0)
]

range_contains : (y : ℕ × ℕ) (q : ℕ) → y.0 ≤ q → q < y.1 → in_range y q ≡ true
range_contains y q low high = grind (arith, nat_tests)

pub moves_common_after_move : (ks ks' xs xs' : List (ℕ × ℕ)) (y : ℕ × ℕ) (limit : ℕ) → IsNormal xs → y.0 ≤ next_of xs → limit ≤ y.1 + 1 → EndsBelow (next_of xs) ks → MovesPrefix xs xs' limit ks ks' → MovesCommon xs xs' y ks ks'
moves_common_after_move ks ks' xs xs' y limit normal from is after c =
    let whole = subst IsNormal c.parts normal in
    let ended = ends_by-below y.1 c.removed (EndsBelow-more limit (y.1 + 1) c.removed c.below is) in
    record {
      removed = c.removed;
      parts = c.parts;
      ended = ended;
      built = c.built;
      below = EndsBelow-more (next_of xs') (max (next_of xs') y.0) ks' (ends_below_after_move ks ks' xs xs' limit normal after c) (omega arith);
      same = λ q. ap (λ (l : List (ℕ × ℕ)). in_ranges l q) c.kept ∙ in_ranges-append ks c.removed q
          ∙ inside_bool (in_ranges ks q) (in_ranges c.removed q) (in_range y q)
          (λ here. range_contains y q (omega (arith, from, ap next_of c.parts, normal_from c.removed xs' q whole here)) (ends_by_in y.1 c.removed q ended here));
    }

pub intersection_first_empty : (ks xs ys whole_xs whole_ys : List (ℕ × ℕ)) (f : Option (ℕ × ℕ)) → IsIntersectionStep ks (from_current f xs) ys whole_xs whole_ys → f ≡ None → (q : ℕ) → in_ranges ks q ≡ (in_ranges whole_xs q && in_ranges whole_ys q)
intersection_first_empty ks xs ys whole_xs whole_ys f s none q =
    sym (or_false (in_ranges ks q))
    ∙ (λ i. in_ranges ks q || (in_ranges (from_current (sym none i) xs) q && in_ranges ys q)) ∙ s.same q

pub intersection_second_empty : (ks xs ys whole_xs whole_ys : List (ℕ × ℕ)) (f : Option (ℕ × ℕ)) → IsIntersectionStep ks xs (from_current f ys) whole_xs whole_ys → f ≡ None → (q : ℕ) → in_ranges ks q ≡ (in_ranges whole_xs q && in_ranges whole_ys q)
intersection_second_empty ks xs ys whole_xs whole_ys f s none q =
    sym (or_false (in_ranges ks q))
    ∙ ap (λ k. in_ranges ks q || k) (sym (and_false (in_ranges xs q)))
    ∙ (λ i. in_ranges ks q || (in_ranges xs q && in_ranges (from_current (sym none i) ys) q)) ∙ s.same q

-- the result after the common part of two ranges was appended
pub common_after : (kept : List (ℕ × ℕ)) (from from' : ℕ) → EndsBelow from kept → from' ≡ from → EndsBelow from' kept
common_after kept from from' below is = subst (λ (n : ℕ). EndsBelow n kept) (sym is) below

pub common_below : (kept kept' : List (ℕ × ℕ)) (from to from' to' f : ℕ) → EndsBelow from kept → kept' ≡ kept ++ (from', to') ∷ [] → from' ≡ from → to' ≡ to → from ≤ f → to < f → EndsBelow f kept'
common_below kept kept' from to from' to' f below is ef et le lt =
    subst (λ (l : List (ℕ × ℕ)). EndsBelow f l) (sym is) (EndsBelow-append f kept ((from', to') ∷ []) (EndsBelow-more from f kept below le) (omega arith, tt))

pub empty_common_range : (kept : List (ℕ × ℕ)) (from to from' to' q : ℕ) → from' ≡ from → to' ≡ to → to' ≤ from' → in_ranges kept q ≡ (in_ranges kept q || in_range (from, to) q)
empty_common_range kept from to from' to' q f t le = in_empty_range from to q (in_ranges kept q) (omega arith)
