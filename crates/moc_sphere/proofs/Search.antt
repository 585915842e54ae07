-- The cells that the search through the nine steps has found so far.
use Rattle.std.proofs.Common.{◌≡◌, ℕ, ◌+◌, ◌-◌, ◌<◌, ◌≤◌, ◌*◌, ◌/◌, ◌%◌, ◌^◌, ◌⊎◌, ◌↔◌, List, [], length, Contains, inl, inr, arith, sym, subst}
use Rattle.std.specs.List.Sorted.{IsStrictlyIncreasing}
use Rattle.std.proofs.lemmas.Bool.{cases_lt}
use Rattle.moc_sphere.specs.Faces.{face_of, x_of, y_of}
use Rattle.moc_sphere.specs.Touching.{Touches}
use Rattle.moc_sphere.specs.Private.Sides.{IsAtStep, IsBeside, IsBeyondNorthEast, IsBeyondSouthWest, IsBeyondNorthWest, IsBeyondSouthEast, IsBeyondNorth, IsBeyondSouth, IsBeyondEast, IsBeyondWest}
use Rattle.moc_sphere.proofs.Touching.{Touches-from_step, step_from_Touches}
use Rattle.moc_sphere.proofs.FaceBounds.{same_cell}

pub record Found (k i step : ℕ) (items : List ℕ) : Type 0 where
  pub ascending : IsStrictlyIncreasing items
  pub early : step ≤ 4 → length items ≤ step
  pub late : 4 < step → length items + 1 ≤ step
  pub sound : (j : ℕ) → Contains items j → (d : ℕ) × (d < step) × (d ≡ 4 → ⊥) × IsAtStep k i d j
  pub complete : (j d : ℕ) → d < step → (d ≡ 4 → ⊥) → IsAtStep k i d j → Contains items j

pub nothing_found_at_first : (k i : ℕ) → Found k i 0 []
nothing_found_at_first k i = record {
  ascending = λ a h. absurd (omega arith);
  early = λ h. omega arith;
  late = λ h. absurd (omega arith);
  sound = λ j (a, al, e). absurd (omega arith);
  complete = λ j d h. absurd (omega arith);
}

-- a step leads to one place
module _ (n f s t g z w h u v : ℕ) (b : IsBeside n f s t h u v) where
  one_inside : ((1 ≤ s) × (s ≤ n) × (1 ≤ t) × (t ≤ n) × (g ≡ f) × (z + 1 ≡ s) × (w + 1 ≡ t)) → (g ≡ h) × (z ≡ u) × (w ≡ v)
  one_inside a = grind arith

  one_north_east : ((s ≡ n + 1) × (1 ≤ t) × (t ≤ n) × IsBeyondNorthEast (n - 1) f (t - 1) g z w) → (g ≡ h) × (z ≡ u) × (w ≡ v)
  one_north_east a = grind arith

  one_south_west : ((s ≡ 0) × (1 ≤ t) × (t ≤ n) × IsBeyondSouthWest (n - 1) f (t - 1) g z w) → (g ≡ h) × (z ≡ u) × (w ≡ v)
  one_south_west a = grind arith

  one_north_west : ((t ≡ n + 1) × (1 ≤ s) × (s ≤ n) × IsBeyondNorthWest (n - 1) f (s - 1) g z w) → (g ≡ h) × (z ≡ u) × (w ≡ v)
  one_north_west a = grind arith

  one_south_east : ((t ≡ 0) × (1 ≤ s) × (s ≤ n) × IsBeyondSouthEast (n - 1) f (s - 1) g z w) → (g ≡ h) × (z ≡ u) × (w ≡ v)
  one_south_east a = grind arith

  one_north : ((s ≡ n + 1) × (t ≡ n + 1) × IsBeyondNorth (n - 1) f g z w) → (g ≡ h) × (z ≡ u) × (w ≡ v)
  one_north a = grind arith

  one_south : ((s ≡ 0) × (t ≡ 0) × IsBeyondSouth (n - 1) f g z w) → (g ≡ h) × (z ≡ u) × (w ≡ v)
  one_south a = grind arith

  one_east : ((s ≡ n + 1) × (t ≡ 0) × IsBeyondEast (n - 1) f g z w) → (g ≡ h) × (z ≡ u) × (w ≡ v)
  one_east a = grind arith

  one_west : ((s ≡ 0) × (t ≡ n + 1) × IsBeyondWest (n - 1) f g z w) → (g ≡ h) × (z ≡ u) × (w ≡ v)
  one_west a = grind arith

  one_beside : IsBeside n f s t g z w → (g ≡ h) × (z ≡ u) × (w ≡ v)
  one_beside a =
      elim a [
        | inl x ↦ one_inside x
        | inr (inl x) ↦ one_north_east x
        | inr (inr (inl x)) ↦ one_south_west x
        | inr (inr (inr (inl x))) ↦ one_north_west x
        | inr (inr (inr (inr (inl x)))) ↦ one_south_east x
        | inr (inr (inr (inr (inr (inl x))))) ↦ one_north x
        | inr (inr (inr (inr (inr (inr (inl x)))))) ↦ one_south x
        | inr (inr (inr (inr (inr (inr (inr (inl x))))))) ↦ one_east x
        | inr (inr (inr (inr (inr (inr (inr (inr (x)))))))) ↦ one_west x
      ]

pub cell_at_step_is_unique : (k i d j l : ℕ) → IsAtStep k i d j → IsAtStep k i d l → j ≡ l
cell_at_step_is_unique k i d j l (jb, a) (lb, b) =
    let e = one_beside (2 ^ k) (face_of k i) (x_of k i + d / 3) (y_of k i + d % 3) (face_of k j) (x_of k j) (y_of k j)
    (face_of k l) (x_of k l) (y_of k l) b a in
    same_cell k j l e.0 e.1 e.2

module _ (k i step : ℕ) (items : List ℕ) (found : Found k i step items) where
  late_so_far : (step ≡ 4 → ⊥) → 4 < step + 1 → length items + 1 ≤ step
  late_so_far off h = elim (cases_lt 4 step) [ inl s ↦ found.late s | inr s ↦ absurd (off (omega arith)) ]

  -- a step that leads to no cell
  pub found_after_step_without_cell : (step ≡ 4 → ⊥) → ((j : ℕ) → IsAtStep k i step j → ⊥) → Found k i (step + 1) items
  found_after_step_without_cell off none = record {
    ascending = found.ascending;
    early = λ h. omega (arith, found.early (omega arith));
    late = λ h. omega (arith, late_so_far off h);
    sound = λ j c. let r = found.sound j c in (r.0, omega (arith, r.1), r.2, r.3);
    complete = λ j d h o here. complete_none none j d h o here;
  }
    where
      complete_none : ((j : ℕ) → IsAtStep k i step j → ⊥) → (j d : ℕ) → d < step + 1 → (d ≡ 4 → ⊥) → IsAtStep k i d j → Contains items j
      complete_none none j d h o here =
          elim (cases_lt d step) [
            | inl s ↦ found.complete j d s o here
            | inr s ↦ let e : d ≡ step = omega arith in absurd (none j (subst (λ t. IsAtStep k i t j) e here))
          ]

  -- step 4, which leads to the cell itself
  pub found_skip : step ≡ 4 → Found k i (step + 1) items
  found_skip four = record {
    ascending = found.ascending;
    early = λ h. absurd (omega arith);
    late = λ h. omega (arith, found.early (omega arith));
    sound = λ j c. let r = found.sound j c in (r.0, omega (arith, r.1), r.2, r.3);
    complete = λ j d h o here. elim (cases_lt d step) [ inl s ↦ found.complete j d s o here | inr s ↦ absurd (o (omega arith)) ];
  }

  -- a step that leads to cell v
  pub found_some : (v : ℕ) (more : List ℕ) → (step ≡ 4 → ⊥) → IsAtStep k i step v → IsStrictlyIncreasing more
      → length more ≤ length items + 1 → ((j : ℕ) → Contains more j ↔ ((j ≡ v) ⊎ Contains items j)) → Found k i (step + 1) more
  found_some v more off at_v ascending len has = record {
    ascending = ascending;
    early = λ h. omega (arith, found.early (omega arith));
    late = λ h. omega (arith, late_so_far off h);
    sound = λ j c. sound_some off at_v j ((has j).0 c);
    complete = λ j d h o here. (has j).1 (complete_some at_v j d h o here);
  }
    where
      sound_some : (step ≡ 4 → ⊥) → IsAtStep k i step v → (j : ℕ) → (j ≡ v) ⊎ Contains items j
          → (d : ℕ) × (d < step + 1) × (d ≡ 4 → ⊥) × IsAtStep k i d j
      sound_some off at_v j (inl e) = (step, omega arith, off, subst (λ t. IsAtStep k i step t) (sym e) at_v)
      sound_some off at_v j (inr c) = let r = found.sound j c in (r.0, omega (arith, r.1), r.2, r.3)

      complete_some : IsAtStep k i step v → (j d : ℕ) → d < step + 1 → (d ≡ 4 → ⊥) → IsAtStep k i d j → (j ≡ v) ⊎ Contains items j
      complete_some at_v j d h o here =
          elim (cases_lt d step) [
            | inl s ↦ inr (found.complete j d s o here)
            | inr s ↦
                let e : d ≡ step = omega arith in
                inl (cell_at_step_is_unique k i step j v (subst (λ t. IsAtStep k i t j) e here) at_v)
          ]

pub not_at_step : (k i d n f x y : ℕ) → n ≡ 2 ^ k → f ≡ face_of k i → x ≡ x_of k i → y ≡ y_of k i
    → ((g z w : ℕ) → IsBeside n f (x + d / 3) (y + d % 3) g z w → ⊥) → (j : ℕ) → IsAtStep k i d j → ⊥
not_at_step k i d n f x y en ef ex ey none j (jb, h) = none (face_of k j) (x_of k j) (y_of k j) (rw (en, ef, ex, ey) h)

pub found_iff_touches : (k i : ℕ) (items : List ℕ) → i < 12 * 4 ^ k → Found k i 9 items → (j : ℕ) → Contains items j ↔ Touches k i j
found_iff_touches k i items ib found j = (
  (λ c. let r = found.sound j c in Touches-from_step k i r.0 j ib r.1 r.2 r.3),
  (λ t. let r = step_from_Touches k i j t in found.complete j r.0 r.1 r.2 r.3),
)

pub at_most_eight_found : (k i : ℕ) (items : List ℕ) → Found k i 9 items → length items ≤ 8
at_most_eight_found k i items found = omega (arith, found.late (omega arith))
