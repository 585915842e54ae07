-- The steps from a cell that is not on the border of its base pixel.
use Rattle.std.proofs.Common.{◌≡◌, ◌≢◌, ℕ, zero, suc, ◌+◌, ◌-◌, ◌*◌, ◌/◌, ◌%◌, ◌^◌, ◌<◌, ◌≤◌, ◌↔◌, List, [], ◌∷◌, get_or, Contains, inl, refl, sym, ap, ◌∙◌, arith}
use Rattle.std.specs.List.Sorted.{IsStrictlyIncreasing}
use Rattle.moc_sphere.specs.CellNumber.{cell_count}
use Rattle.moc_sphere.specs.Faces.{face_of, x_of, y_of}
use Rattle.moc_sphere.specs.Private.Spread.{spread_of}
use Rattle.moc_sphere.specs.Private.Sums.{sum_at}
use Rattle.moc_sphere.specs.Touching.{Touches}
use Rattle.moc_sphere.proofs.CellFacts.{index_code, index_fits}
use Rattle.moc_sphere.proofs.FaceBounds.{side_positive}
use Rattle.moc_sphere.proofs.Powers.{two_pow_le}
use Rattle.moc_sphere.proofs.RingCount.{index_of, index_in_range, face_of-index, x_of-index, y_of-index}
use Rattle.moc_sphere.proofs.Search.{cell_at_step_is_unique}
use Rattle.moc_sphere.proofs.SpreadSteps.{spread_of-ascends}
use Rattle.moc_sphere.specs.Private.Sides.{IsAtStep}
use Rattle.moc_sphere.proofs.Touching.{Touches-from_step, step_from_Touches}

-- a step leads to the index of the cell there, in the same base pixel
pub step_inside : (k i f x y d j : ℕ) → face_of k i ≡ f → x_of k i ≡ x → y_of k i ≡ y → f < 12 → 0 < x → x + 1 < 2 ^ k → 0 < y → y + 1 < 2 ^ k
    → d < 9 → j ≡ index_of k f (x + d / 3 - 1) (y + d % 3 - 1) → IsAtStep k i d j
step_inside k i f x y d j ef ex ey fb xp xl yp yl db ej =
    let u = x + d / 3 - 1 in
    let v = y + d % 3 - 1 in
    let face : face_of k j ≡ f = ap (face_of k) ej ∙ face_of-index k f u v in
    let right : x_of k j ≡ u = ap (x_of k) ej ∙ x_of-index k f u v (omega arith) in
    let up : y_of k j ≡ v = ap (y_of k) ej ∙ y_of-index k f u v (omega arith) in (
      rw ej (index_in_range k f u v fb),
      inl (omega arith, omega arith, omega arith, omega arith, face ∙ sym ef, omega arith, omega arith),
    )

-- ---- the sums that the code computes

-- the spread coordinates of the cell and of the cells beside it, and the first index of its base pixel
pub record IsAround (k f x y first p q r s t u : ℕ) : Type 0 where
  pub order_in_range : k ≤ 29
  pub face_in_range : f < 12
  pub x_above : 0 < x
  pub x_below : x + 1 < 2 ^ k
  pub y_above : 0 < y
  pub y_below : y + 1 < 2 ^ k
  pub is_first : first ≡ f * 2 ^ (2 * k) % 2 ^ 64
  pub x_before : p ≡ spread_of 32 (x - 1)
  pub x_here : q ≡ spread_of 32 x
  pub x_after : r ≡ spread_of 32 (x + 1)
  pub y_before : s ≡ spread_of 32 (y - 1)
  pub y_here : t ≡ spread_of 32 y
  pub y_after : u ≡ spread_of 32 (y + 1)

across_at : (first p q r a x : ℕ) → p ≡ spread_of 32 (x - 1) → q ≡ spread_of 32 x → r ≡ spread_of 32 (x + 1) → 0 < x → a < 3
    → get_or ((first + p) ∷ (first + q) ∷ (first + r) ∷ []) a 0 ≡ first + spread_of 32 (x + a - 1)
across_at first p q r zero x ep eq er pos l = let e : x - 1 ≡ x + 0 - 1 = omega arith in ap (λ n. first + n) (ep ∙ ap (spread_of 32) e)
across_at first p q r (suc zero) x ep eq er pos l = let e : x ≡ x + 1 - 1 = omega arith in ap (λ n. first + n) (eq ∙ ap (spread_of 32) e)
across_at first p q r (suc (suc zero)) x ep eq er pos l = let e : x + 1 ≡ x + 2 - 1 = omega arith in ap (λ n. first + n) (er ∙ ap (spread_of 32) e)
across_at first p q r (suc (suc (suc a))) x ep eq er pos l = absurd (omega arith)

up_at : (p q r a x : ℕ) → p ≡ spread_of 32 (x - 1) → q ≡ spread_of 32 x → r ≡ spread_of 32 (x + 1) → 0 < x → a < 3
    → get_or (2 * p ∷ 2 * q ∷ 2 * r ∷ []) a 0 ≡ 2 * spread_of 32 (x + a - 1)
up_at p q r zero x ep eq er pos l = let e : x - 1 ≡ x + 0 - 1 = omega arith in ap (λ n. 2 * n) (ep ∙ ap (spread_of 32) e)
up_at p q r (suc zero) x ep eq er pos l = let e : x ≡ x + 1 - 1 = omega arith in ap (λ n. 2 * n) (eq ∙ ap (spread_of 32) e)
up_at p q r (suc (suc zero)) x ep eq er pos l = let e : x + 1 ≡ x + 2 - 1 = omega arith in ap (λ n. 2 * n) (er ∙ ap (spread_of 32) e)
up_at p q r (suc (suc (suc a))) x ep eq er pos l = absurd (omega arith)

pub in_word : (k x : ℕ) → k ≤ 29 → x + 1 < 2 ^ k → x + 1 < 2 ^ 32
in_word k x small l = omega (arith, two_pow_le k small)

-- the spread coordinate of a cell beside, added to the first index of the base pixel, fits in 64 bits
pub across_fits : (k f x s j v : ℕ) → j ≡ k → j ≤ 29 → v ≡ f → f < 12 → x < 2 ^ k → s ≡ spread_of 32 x → v * 2 ^ (2 * j) % 2 ^ 64 + s < 2 ^ 64
across_fits k f x s j v level small base fb l e =
    omega (arith, index_code k j f v x 0 s (spread_of 32 0) (omega arith) level base fb l (side_positive k) e refl, index_fits k f x 0 (omega arith) fb)

module _ (k f x y first p q r s t u : ℕ) (around : IsAround k f x y first p q r s t u) where
  -- the sum at a step is the index of the cell there
  pub sum_is : (d : ℕ) → d < 9 → sum_at ((first + p) ∷ (first + q) ∷ (first + r) ∷ []) (2 * s ∷ 2 * t ∷ 2 * u ∷ []) d ≡ index_of k f (x + d / 3 - 1) (y + d % 3 - 1)
  sum_is d db =
      let a = across_at first p q r (d / 3) x around.x_before around.x_here around.x_after around.x_above (omega arith) in
      let b = up_at s t u (d % 3) y around.y_before around.y_here around.y_after around.y_above (omega arith) in
      let number = index_code k k f f (x + d / 3 - 1) (y + d % 3 - 1) _ _ around.order_in_range refl refl around.face_in_range (omega arith) (omega arith) refl refl in
      let is_first = around.is_first in
      omega (arith, a, b, number, is_first)

  pub sums_fit : first + r + 2 * u < 2 ^ 64
  sums_fit = omega (arith, sum_is 8 (omega arith), index_fits k f (x + 2 - 1) (y + 2 - 1) around.order_in_range around.face_in_range)

  pub sums_apart : (d e : ℕ) → d < 9 → e < 9 → sum_at ((first + p) ∷ (first + q) ∷ (first + r) ∷ []) (2 * s ∷ 2 * t ∷ 2 * u ∷ []) d ≡ sum_at ((first + p) ∷ (first + q) ∷ (first + r) ∷ []) (2 * s ∷ 2 * t ∷ 2 * u ∷ []) e → d ≡ e
  sums_apart d e db eb same =
      let one : index_of k f (x + d / 3 - 1) (y + d % 3 - 1) ≡ index_of k f (x + e / 3 - 1) (y + e % 3 - 1) = sym (sum_is d db) ∙ same ∙ sum_is e eb in
      let right : x + d / 3 - 1 ≡ x + e / 3 - 1 = sym (x_of-index k f (x + d / 3 - 1) (y + d % 3 - 1) (omega arith)) ∙ ap (x_of k) one ∙ x_of-index k f (x + e / 3 - 1) (y + e % 3 - 1) (omega arith) in
      let up : y + d % 3 - 1 ≡ y + e % 3 - 1 = sym (y_of-index k f (x + d / 3 - 1) (y + d % 3 - 1) (omega arith)) ∙ ap (y_of k) one ∙ y_of-index k f (x + e / 3 - 1) (y + e % 3 - 1) (omega arith) in
      omega arith

  pub across_ascends : IsStrictlyIncreasing ((first + p) ∷ (first + q) ∷ (first + r) ∷ [])
  across_ascends zero l = omega (arith, spread_of-ascends 32 (x - 1) x (omega arith) (omega (arith, two_pow_le k around.order_in_range)))
  across_ascends (suc zero) l = omega (arith, spread_of-ascends 32 x (x + 1) (omega arith) (omega (arith, two_pow_le k around.order_in_range)))
  across_ascends (suc (suc a)) l = absurd (omega arith)

  pub up_ascends : IsStrictlyIncreasing (2 * s ∷ 2 * t ∷ 2 * u ∷ [])
  up_ascends zero l = omega (arith, spread_of-ascends 32 (y - 1) y (omega arith) (omega (arith, two_pow_le k around.order_in_range)))
  up_ascends (suc zero) l = omega (arith, spread_of-ascends 32 y (y + 1) (omega arith) (omega (arith, two_pow_le k around.order_in_range)))
  up_ascends (suc (suc a)) l = absurd (omega arith)

  -- the sums except the middle one are the cells that touch
  pub sums_touch : (i : ℕ) (items : List ℕ) → i < cell_count k → face_of k i ≡ f → x_of k i ≡ x → y_of k i ≡ y
      → ((j : ℕ) → Contains items j ↔ ((d : ℕ) × (d < 9) × (d ≢ 4) × (j ≡ sum_at ((first + p) ∷ (first + q) ∷ (first + r) ∷ []) (2 * s ∷ 2 * t ∷ 2 * u ∷ []) d)))
      → (j : ℕ) → Contains items j ↔ Touches k i j
  sums_touch i items ib ef ex ey has j = (
    (λ c. let sum = (has j).0 c in Touches-from_step k i sum.0 j ib sum.1 sum.2 (there sum.0 j sum.1 (sum.3 ∙ sum_is sum.0 sum.1))),
    (λ t. let step = step_from_Touches k i j t in
        (has j).1 (step.0, step.1, step.2, cell_at_step_is_unique k i step.0 j _ step.3 (there step.0 _ step.1 refl) ∙ sym (sum_is step.0 step.1))),
  )
    where
      there : (d j : ℕ) → d < 9 → j ≡ index_of k f (x + d / 3 - 1) (y + d % 3 - 1) → IsAtStep k i d j
      there d j db e = step_inside k i f x y d j ef ex ey around.face_in_range around.x_above around.x_below around.y_above around.y_below db e
