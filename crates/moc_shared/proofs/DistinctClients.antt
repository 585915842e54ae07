-- Different records stand for different clients.
use Rattle.std.proofs.Common.{◌≡◌, ◌≢◌, ◌⊎◌, ℕ, ◌<◌, ◌≤◌, List, [], ◌∷◌, set, sym, ap, ◌∙◌, subst, inl, inr, ⊎_elim}
use Rattle.std.proofs.Common.{arith, sum_by, Contains}
use mathlib.Core.Option.{some, some-injective}
use mathlib.Core.Logic.{dite}
use native.Mathlib.Decide.{ℕ_discrete}
use lib.ListN.{get_elem?}
use Rattle.std.proofs.lemmas.List.Sums.{sum_by-cons}
use Rattle.atomic_table.proofs.Lists.{at_set}
use Rattle.moc_shared.specs.declared.record.Record.{Record}
use Rattle.moc_shared.specs.declared.record.View.{View}
use Rattle.moc_shared.specs.History.{times_standing, StandsFor}
use Rattle.moc_shared.specs.Private.Invariant.{records, IsPresent, times_in_view, times_in_views}
use Rattle.moc_shared.proofs.Basics.{cons_cases, nothing_in_empty_list, sum_of, sum_at, sum_at_two}

-- two elements that both count in a sum of at most 1 are equal
one_counted : {A : Type 0} (f : A → ℕ) (xs : List A) (x y : A) → sum_by f xs ≤ 1 → Contains xs x → Contains xs y
    → 0 < f x → 0 < f y → x ≡ y
one_counted f [] x y within_max hx hy px py = absurd (nothing_in_empty_list x hx)
one_counted f (z ∷ zs) x y within_max hx hy px py =
    let c = sum_by-cons f z zs in
    ⊎_elim
    (λ (e : z ≡ x). ⊎_elim (λ (d : z ≡ y). sym e ∙ d)
    (λ (t : Contains zs y). let s = sum_of f zs y t in let fe : f z ≡ f x = ap f e in absurd (omega arith))
    (cons_cases z zs y hy))
    (λ (s : Contains zs x). ⊎_elim
    (λ (d : z ≡ y). let u = sum_of f zs x s in let fd : f z ≡ f y = ap f d in absurd (omega arith))
    (λ (t : Contains zs y). one_counted f zs x y (omega arith) s t px py) (cons_cases z zs y hy))
    (cons_cases z zs x hx)

module _ {X O R Y : Type 0} where
  pub stood_of : (c : ℕ) (v : View X O R Y) (r : Record O R) → Contains (records v) r → times_standing c r ≤ times_in_view c v
  stood_of c v r h = sum_of (times_standing c) (records v) r h

  -- at most one view stands for a client
  pub one_view : (c : ℕ) (views : List (View X O R Y)) (i j : ℕ) (v w : View X O R Y) → times_in_views c views ≤ 1
      → get_elem? views i ≡ some v → get_elem? views j ≡ some w → 0 < times_in_view c v → 0 < times_in_view c w → j ≡ i
  one_view c views i j v w within_max ev ew pv pw =
      dite (ℕ_discrete j i) (λ e. e)
      (λ ne. let s = sum_at_two (times_in_view c) views i j v w ev ew ne in absurd (omega arith))

  pub one_record : (c : ℕ) (views : List (View X O R Y)) (r q : Record O R) → times_in_views c views ≤ 1 → IsPresent views r
      → IsPresent views q → StandsFor r c → StandsFor q c → r ≡ q
  one_record c views r q within_max (i, v, ev, hr) (j, w, ew, hq) pr pq =
      let sr = stood_of c v r hr in
      let sq = stood_of c w q hq in
      let same : j ≡ i = one_view c views i j v w within_max ev ew (omega arith) (omega arith) in
      let one : v ≡ w = some-injective v w (sym ev ∙ subst (λ (k : ℕ). get_elem? views k ≡ some w) same ew) in
      let all = sum_at (times_in_view c) views i v ev in
      one_counted (times_standing c) (records v) r q (omega arith) hr
      (subst (λ (u : View X O R Y). Contains (records u) q) (sym one) hq) pr pq

  -- a record in the views after one of the views was replaced
  pub present_cases : (views : List (View X O R Y)) (id : ℕ) (w : View X O R Y) (r : Record O R)
      → IsPresent (set views id w) r → Contains (records w) r ⊎ IsPresent views r
  present_cases views id w r (j, u, e, h) =
      ⊎_elim
      (λ (t : (j ≡ id) × (w ≡ u)). inl (subst (λ (x : View X O R Y). Contains (records x) r) (sym t.1) h))
      (λ (t : (j ≢ id) × (get_elem? views j ≡ some u)). inr (j, u, t.1, h))
      (at_set views id j w u e)
