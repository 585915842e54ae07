-- Merging the ranges of two blocks.
use Rattle.std.proofs.Common.{◌≡◌, ℕ, ◌≤◌, Bool, true, false, ◌||◌, List, [], ◌∷◌, ◌++◌, refl, sym, ap, subst}
use Rattle.std.proofs.Common.{◌∙◌, arith, append_assoc}
use Rattle.moc_blocks.specs.RangeList.{IsNormal}
use Rattle.moc_blocks.specs.Lemmas.Members.{in_range, in_ranges, or_assoc}
use Rattle.moc_blocks.specs.Private.Blocks.{next_of}
use Rattle.moc_blocks.specs.Private.Built.{GrowingList, ranges_of, CanMerge, BeginsBy}
use Rattle.moc_operations.specs.Private.Taking.{TakesFirst, IsMerging, MovesBoth}
use Rattle.moc_operations.proofs.Merging.{next_of_suffix, CanMerge-more, IsUnionStep}
use Rattle.moc_blocks.proofs.Building.{last_begins, can_merge_after_push}

or_swap_second : (a b c : Bool) → (a || (b || c)) ≡ (b || (a || c))
or_swap_second true true c = refl
or_swap_second true false c = refl
or_swap_second false b c = refl

symmetric_at : (x : ℕ × ℕ) (xs ys : List (ℕ × ℕ)) → IsNormal (x ∷ xs) → IsNormal ys → x.0 ≤ next_of ys → TakesFirst (x ∷ xs) ys x xs ys
symmetric_at x xs ys n m le =
    let later : x.0 ≤ next_of xs = next_of_suffix (x ∷ []) xs n in
    record {
      first_normal = n.3;
      second_normal = m;
      filled = n.0;
      within = n.1;
      first_later = later;
      second_later = le;
      lower = λ low a b. a;
      same = λ q. or_assoc (in_range x q) (in_ranges xs q) (in_ranges ys q);
      onward = omega arith;
    }

symmetric_other : (y : ℕ × ℕ) (xs ys : List (ℕ × ℕ)) → IsNormal xs → IsNormal (y ∷ ys) → y.0 ≤ next_of xs → TakesFirst xs (y ∷ ys) y xs ys
symmetric_other y xs ys n m le =
    let later : y.0 ≤ next_of ys = next_of_suffix (y ∷ []) ys m in
    record {
      first_normal = n;
      second_normal = m.3;
      filled = m.0;
      within = m.1;
      first_later = le;
      second_later = later;
      lower = λ low a b. b;
      same = λ q. or_swap_second (in_ranges xs q) (in_range y q) (in_ranges ys q);
      onward = omega arith;
    }

pub symmetric_first : (xs ys more more' bx by : List (ℕ × ℕ)) (x y : ℕ × ℕ) → xs ≡ x ∷ more → ys ≡ y ∷ more' → x.0 ≤ y.0 → IsNormal (xs ++ bx) → IsNormal (ys ++ by) → TakesFirst (xs ++ bx) (ys ++ by) x (more ++ bx) (ys ++ by)
symmetric_first xs ys more more' bx by x y ex ey le n m =
    let head : next_of (ys ++ by) ≡ y.0 = ap (λ (l : List (ℕ × ℕ)). next_of (l ++ by)) ey in
    subst (λ (l : List (ℕ × ℕ)). TakesFirst (l ++ bx) (ys ++ by) x (more ++ bx) (ys ++ by)) (sym ex)
    (symmetric_at x (more ++ bx) (ys ++ by) (subst (λ (l : List (ℕ × ℕ)). IsNormal (l ++ bx)) ex n) m (omega arith))

pub symmetric_second : (xs ys more more' bx by : List (ℕ × ℕ)) (x y : ℕ × ℕ) → xs ≡ x ∷ more → ys ≡ y ∷ more' → y.0 ≤ x.0 → IsNormal (xs ++ bx) → IsNormal (ys ++ by) → TakesFirst (xs ++ bx) (ys ++ by) y (xs ++ bx) (more' ++ by)
symmetric_second xs ys more more' bx by x y ex ey le n m =
    let head : next_of (xs ++ bx) ≡ x.0 = ap (λ (l : List (ℕ × ℕ)). next_of (l ++ bx)) ex in
    subst (λ (l : List (ℕ × ℕ)). TakesFirst (xs ++ bx) (l ++ by) y (xs ++ bx) (more' ++ by)) (sym ey)
    (symmetric_other y (xs ++ bx) (more' ++ by) n (subst (λ (l : List (ℕ × ℕ)). IsNormal (l ++ by)) ey m) (omega arith))

pub joining_step : (ks ks' xs xs' ys ys' whole whole_xs whole_ys : List (ℕ × ℕ)) (last last' range : ℕ × ℕ) → IsMerging ks last xs ys whole whole_xs whole_ys → TakesFirst xs ys range xs' ys' → IsNormal (ks' ++ last' ∷ []) → last'.0 ≤ range.0 → ((q : ℕ) → in_ranges (ks' ++ last' ∷ []) q ≡ (in_ranges (ks ++ last ∷ []) q || in_range range q)) → IsMerging ks' last' xs' ys' whole whole_xs whole_ys
joining_step ks ks' xs xs' ys ys' whole whole_xs whole_ys last last' range s t opened later same = record {
  opened = opened;
  first_normal = t.first_normal;
  second_normal = t.second_normal;
  first_later = let a = t.first_later in omega arith;
  second_later = let a = t.second_later in omega arith;
  same = λ q. ap (λ b. b || (in_ranges xs' q || in_ranges ys' q)) (same q)
      ∙ or_assoc (in_ranges (ks ++ last ∷ []) q) (in_range range q) (in_ranges xs' q || in_ranges ys' q)
      ∙ ap (λ b. in_ranges (ks ++ last ∷ []) q || b) (sym (t.same q))
      ∙ s.same q;
  fewer = omega (arith, s.fewer, t.onward);
}

pub ranges_after_pop : (u u' : GrowingList) (last : ℕ × ℕ) → u'.closed ≡ u.closed → u.loose ≡ u'.loose ++ last ∷ [] → ranges_of u ≡ ranges_of u' ++ last ∷ []
ranges_after_pop u u' last closed loose =
    (λ i. sym closed i ++ loose i) ∙ sym (append_assoc u'.closed u'.loose (last ∷ []))

pub normal_after_pop : (u u' : GrowingList) (last : ℕ × ℕ) → IsNormal (ranges_of u) → u'.closed ≡ u.closed → u.loose ≡ u'.loose ++ last ∷ [] → IsNormal (ranges_of u' ++ last ∷ [])
normal_after_pop u u' last built closed loose = subst IsNormal (ranges_after_pop u u' last closed loose) built

pub last_before_range : (u u' : GrowingList) (last : ℕ × ℕ) (f : ℕ) → CanMerge u f → u.loose ≡ u'.loose ++ last ∷ [] → last.0 ≤ f
last_before_range u u' last f can old = last_begins f u'.loose last (subst (λ (l : List (ℕ × ℕ)). BeginsBy f l) old can.begun)

pub moves_both_by_merge : (u u'' : GrowingList) (kept xs xs' ys ys' whole init : List (ℕ × ℕ)) (last : ℕ × ℕ) → IsMerging kept last xs' ys' whole xs ys → ranges_of u ≡ whole → IsNormal (ranges_of u'') → ranges_of u'' ≡ kept ++ last ∷ [] → u''.loose ≡ init ++ last ∷ [] → MovesBoth xs xs' ys ys' u u''
moves_both_by_merge u u'' kept xs xs' ys ys' whole init last s is built written end =
    let can = can_merge_after_push u'' init last built end in
    record {
      built = built;
      first_normal = s.first_normal;
      second_normal = s.second_normal;
      can_first = CanMerge-more u'' last.0 (next_of xs') can s.first_later;
      can_second = CanMerge-more u'' last.0 (next_of ys') can s.second_later;
      same = λ q. ap (λ (l : List (ℕ × ℕ)). in_ranges l q || (in_ranges xs' q || in_ranges ys' q)) written ∙ s.same q ∙ ap (λ (l : List (ℕ × ℕ)). in_ranges l q || (in_ranges xs q || in_ranges ys q)) (sym is);
      fewer = s.fewer;
    }

pub uniting_both : (u u' : GrowingList) (xs xs' ys ys' whole_xs whole_ys : List (ℕ × ℕ)) → IsUnionStep u xs ys whole_xs whole_ys → MovesBoth xs xs' ys ys' u u' → IsUnionStep u' xs' ys' whole_xs whole_ys
uniting_both u u' xs xs' ys ys' whole_xs whole_ys s t = record {
  built = t.built;
  first_normal = t.first_normal;
  second_normal = t.second_normal;
  can_first = t.can_first;
  can_second = t.can_second;
  same = λ q. t.same q ∙ s.same q;
}

pub moves_both_by_equality : (u u' : GrowingList) (xs xs' ys ys' us us' vs vs' : List (ℕ × ℕ)) → us ≡ xs → xs' ≡ us' → vs ≡ ys → ys' ≡ vs' → MovesBoth us us' vs vs' u u' → MovesBoth xs xs' ys ys' u u'
moves_both_by_equality u u' xs xs' ys ys' us us' vs vs' a b c d t =
    subst (λ (l : List (ℕ × ℕ)). MovesBoth l xs' ys ys' u u') a
    (subst (λ (l : List (ℕ × ℕ)). MovesBoth us l ys ys' u u') (sym b)
    (subst (λ (l : List (ℕ × ℕ)). MovesBoth us us' l ys' u u') c
    (subst (λ (l : List (ℕ × ℕ)). MovesBoth us us' vs l u u') (sym d) t)))
