-- Concatenating lists of ranges, block by block.
use Rattle.std.proofs.Common.{◌≡◌, ℕ, ◌<◌, ◌≤◌, Bool, true, false, ◌||◌, List, [], ◌∷◌, ◌++◌, length, refl, sym, ap}
use Rattle.std.proofs.Common.{subst, ◌∙◌, arith, length-append}
use Rattle.moc_blocks.specs.RangeList.{IsNormal}
use Rattle.moc_blocks.specs.Lemmas.Members.{in_range, in_ranges, in_ranges-append, or_false, or_assoc}
use Rattle.moc_blocks.specs.Private.Blocks.{next_of}
use Rattle.moc_blocks.specs.Private.Built.{GrowingList, ranges_of, CanMerge, CanAppend, MovesPrefix, EndsBelow, BeginsBy}
use Rattle.moc_operations.specs.Private.Taking.{CanMove, MovesNext}
use Rattle.moc_blocks.proofs.Blocking.{IsNormal-suffix}
use Rattle.moc_blocks.proofs.Merging.{EndsBelow-more, EndsBelow-append, EndsBelow-first, ends_second}
use Rattle.moc_blocks.proofs.Merging.{begins_of_ends, ends_next}

pub BeginsBy-more : (f g : ℕ) (rs : List (ℕ × ℕ)) → BeginsBy f rs → f ≤ g → BeginsBy g rs
BeginsBy-more f g [] all le = tt
BeginsBy-more f g (r ∷ rs) all le = (omega arith, BeginsBy-more f g rs all.1 le)

pub next_of_suffix : (rs ss : List (ℕ × ℕ)) → IsNormal (rs ++ ss) → next_of (rs ++ ss) ≤ next_of ss
next_of_suffix [] ss normal = omega arith
next_of_suffix (r ∷ []) [] normal = omega arith
next_of_suffix (r ∷ []) (s ∷ ss) normal = omega arith
next_of_suffix (r ∷ (r' ∷ rs)) ss normal = let rest = next_of_suffix (r' ∷ rs) ss normal.3 in omega arith

pub none_next : (rs : List (ℕ × ℕ)) → IsNormal rs → 18446744073709551615 ≤ next_of rs → rs ≡ []
none_next [] normal le = refl
none_next (r ∷ rs) normal le = absurd (omega arith)

pub CanMerge-more : (u : GrowingList) (f g : ℕ) → CanMerge u f → f ≤ g → CanMerge u g
CanMerge-more u f g can le = record { before = EndsBelow-more f g u.closed can.before le; begun = BeginsBy-more f g u.loose can.begun le }

-- the ranges of a normal list that can still be extended
pub normal_loose : (u : GrowingList) → IsNormal (ranges_of u) → IsNormal u.loose
normal_loose u built = IsNormal-suffix u.closed u.loose built

pub all_end_below : (u : GrowingList) (f : ℕ) → CanMerge u f → EndsBelow f u.loose → EndsBelow f (ranges_of u)
all_end_below u f can apart = EndsBelow-append f u.closed u.loose can.before apart

-- the next ranges of a list can be appended if those that can still be extended end before them
pub can_carry : (u : GrowingList) (xs : List (ℕ × ℕ)) (limit : ℕ) → CanMove xs limit u → EndsBelow (next_of xs) u.loose → CanAppend xs (ranges_of u)
can_carry u xs limit can apart = record { normal = can.normal; built = can.built; after = all_end_below u (next_of xs) can.can apart }

-- if all ranges end below f, a range that begins at f can be merged in
can_of_ends : (u : GrowingList) (f : ℕ) → IsNormal (ranges_of u) → EndsBelow f (ranges_of u) → CanMerge u f
can_of_ends u f built ends = record {
  before = EndsBelow-first f u.closed u.loose ends;
  begun = begins_of_ends f u.loose (normal_loose u built) (ends_second f u.closed u.loose ends);
}

-- ranges of a list were appended
pub carried : (u u' : GrowingList) (xs xs' : List (ℕ × ℕ)) (limit : ℕ) → CanMove xs limit u → EndsBelow (next_of xs) u.loose → MovesPrefix xs xs' limit (ranges_of u) (ranges_of u') → length xs' < length xs → MovesNext xs xs' limit u u'
carried u u' xs xs' limit can apart c fewer =
    let whole = subst IsNormal c.parts can.normal in
    let below = all_end_below u (next_of xs) can.can apart in
    let onward : next_of xs ≤ next_of xs' = subst (λ (l : List (ℕ × ℕ)). next_of l ≤ next_of xs') (sym c.parts) (next_of_suffix c.removed xs' whole) in
    let can_at : (f : ℕ) → next_of xs ≤ f → EndsBelow f c.removed → CanMerge u' f = λ f le ends.
    can_of_ends u' f c.built (subst (λ (l : List (ℕ × ℕ)). EndsBelow f l) (sym c.kept) (EndsBelow-append f (ranges_of u) c.removed (EndsBelow-more (next_of xs) f (ranges_of u) below le) ends)) in
    record {
      removed = c.removed;
      parts = c.parts;
      some = omega (arith, fewer, ap length c.parts, length-append c.removed xs');
      built = c.built;
      same = λ q. ap (λ (l : List (ℕ × ℕ)). in_ranges l q) c.kept ∙ in_ranges-append (ranges_of u) c.removed q;
      can_next = can_at (next_of xs') onward (ends_next c.removed xs' whole);
      can_limit = can_at limit can.first c.below;
    }

-- a range was merged in
pub moves_next_by_merge : (u u' : GrowingList) (xs xs' : List (ℕ × ℕ)) (range : ℕ × ℕ) (limit : ℕ) → IsNormal xs → xs ≡ range ∷ xs' → next_of xs ≤ limit → IsNormal (ranges_of u') → ((q : ℕ) → in_ranges (ranges_of u') q ≡ (in_ranges (ranges_of u) q || in_range range q)) → CanMerge u' range.0 → MovesNext xs xs' limit u u'
moves_next_by_merge u u' xs xs' range limit normal parts first built' same can =
    let whole = subst IsNormal parts normal in
    let begins : next_of xs ≡ range.0 = ap next_of parts in
    let later = next_of_suffix (range ∷ []) xs' whole in
    record {
      removed = range ∷ [];
      parts = parts;
      some = omega arith;
      built = built';
      same = λ q. same q ∙ ap (λ b. in_ranges (ranges_of u) q || b) (sym (or_false (in_range range q)));
      can_next = CanMerge-more u' range.0 (next_of xs') can later;
      can_limit = CanMerge-more u' range.0 limit can (omega arith);
    }

-- the invariant of a union
pub record IsUnionStep (u : GrowingList) (xs ys whole_xs whole_ys : List (ℕ × ℕ)) : Type 0 where
  pub built : IsNormal (ranges_of u)
  pub first_normal : IsNormal xs
  pub second_normal : IsNormal ys
  pub can_first : CanMerge u (next_of xs)
  pub can_second : CanMerge u (next_of ys)
  pub same : (q : ℕ) → (in_ranges (ranges_of u) q || (in_ranges xs q || in_ranges ys q)) ≡ (in_ranges whole_xs q || in_ranges whole_ys q)

or_moves : (k g x y : Bool) → ((k || g) || (x || y)) ≡ (k || ((g || x) || y))
or_moves true g x y = refl
or_moves false g x y = sym (or_assoc g x y)

or_swaps : (k g x y : Bool) → ((k || g) || (x || y)) ≡ (k || (x || (g || y)))
or_swaps true g x y = refl
or_swaps false true true y = refl
or_swaps false true false y = refl
or_swaps false false x y = refl

pub uniting_first : (u u' : GrowingList) (xs xs' ys whole_xs whole_ys : List (ℕ × ℕ)) (limit : ℕ) → IsUnionStep u xs ys whole_xs whole_ys → limit ≡ next_of ys → MovesNext xs xs' limit u u' → IsUnionStep u' xs' ys whole_xs whole_ys
uniting_first u u' xs xs' ys whole_xs whole_ys limit s is t = record {
  built = t.built;
  first_normal = IsNormal-suffix t.removed xs' (subst IsNormal t.parts s.first_normal);
  second_normal = s.second_normal;
  can_first = t.can_next;
  can_second = subst (λ f. CanMerge u' f) is t.can_limit;
  same = λ q. ap (λ b. b || (in_ranges xs' q || in_ranges ys q)) (t.same q)
      ∙ or_moves (in_ranges (ranges_of u) q) (in_ranges t.removed q) (in_ranges xs' q) (in_ranges ys q)
      ∙ ap (λ b. in_ranges (ranges_of u) q || (b || in_ranges ys q)) (sym (in_ranges-append t.removed xs' q) ∙ ap (λ (l : List (ℕ × ℕ)). in_ranges l q) (sym t.parts))
      ∙ s.same q;
}

pub uniting_second : (u u' : GrowingList) (xs ys ys' whole_xs whole_ys : List (ℕ × ℕ)) (limit : ℕ) → IsUnionStep u xs ys whole_xs whole_ys → limit ≡ next_of xs → MovesNext ys ys' limit u u' → IsUnionStep u' xs ys' whole_xs whole_ys
uniting_second u u' xs ys ys' whole_xs whole_ys limit s is t = record {
  built = t.built;
  first_normal = s.first_normal;
  second_normal = IsNormal-suffix t.removed ys' (subst IsNormal t.parts s.second_normal);
  can_first = subst (λ f. CanMerge u' f) is t.can_limit;
  can_second = t.can_next;
  same = λ q. ap (λ b. b || (in_ranges xs q || in_ranges ys' q)) (t.same q)
      ∙ or_swaps (in_ranges (ranges_of u) q) (in_ranges t.removed q) (in_ranges xs q) (in_ranges ys' q)
      ∙ ap (λ b. in_ranges (ranges_of u) q || (in_ranges xs q || b)) (sym (in_ranges-append t.removed ys' q) ∙ ap (λ (l : List (ℕ × ℕ)). in_ranges l q) (sym t.parts))
      ∙ s.same q;
}

pub union_complete : (u : GrowingList) (xs ys whole_xs whole_ys : List (ℕ × ℕ)) → IsUnionStep u xs ys whole_xs whole_ys → xs ≡ [] → ys ≡ [] → (q : ℕ) → in_ranges (ranges_of u) q ≡ (in_ranges whole_xs q || in_ranges whole_ys q)
union_complete u xs ys whole_xs whole_ys s x y q =
    sym (or_false (in_ranges (ranges_of u) q)) ∙ (λ i. in_ranges (ranges_of u) q || (in_ranges (sym x i) q || in_ranges (sym y i) q)) ∙ s.same q
