-- Spread coordinates that are not on the border of a base pixel.
use Rattle.std.proofs.Common.{◌≡◌, ℕ, zero, suc, ◌+◌, ◌-◌, ◌*◌, ◌/◌, ◌%◌, ◌^◌, ◌<◌, ◌≤◌, inl, inr, refl, sym, ap, ◌∙◌, arith}
use Rattle.std.proofs.lemmas.Bool.{cases_lt}
use Rattle.moc_sphere.specs.Faces.{x_of, y_of}
use Rattle.moc_sphere.specs.Private.Spread.{spread_of}
use Rattle.moc_sphere.proofs.CellFacts.{spread_of-zero, x_of-more}
use Rattle.moc_sphere.proofs.Places.{pow_suc, x_of-lt, y_of-lt}
use Rattle.moc_sphere.proofs.Powers.{shl_four}
use Rattle.moc_sphere.proofs.RingCount.{four_pow_pos}

x_positive_if_spread_positive : (x s : ℕ) → s ≡ spread_of 32 x → 0 < s → 0 < x
x_positive_if_spread_positive x s e pos = elim (cases_lt 0 x) [
  | inl l ↦ l
  | inr g ↦
      let z : x ≡ 0 = omega arith in
      absurd (omega (arith, e, ap (spread_of 32) z, spread_of-zero 32, pos))
]

x_below_last : (k x s : ℕ) → x < 2 ^ k → s ≡ spread_of 32 x → s < spread_of 32 (2 ^ k - 1) → x + 1 < 2 ^ k
x_below_last k x s l e less = elim (cases_lt (x + 1) (2 ^ k)) [
  | inl h ↦ h
  | inr g ↦
      let z : x ≡ 2 ^ k - 1 = omega arith in
      absurd (omega (arith, e, ap (spread_of 32) z, less))
]

-- the cell of order k at (x, y) is not on the border
pub record IsOff (k x y : ℕ) : Type 0 where
  pub x_above : 0 < x
  pub x_below : x + 1 < 2 ^ k
  pub y_above : 0 < y
  pub y_below : y + 1 < 2 ^ k

pub off_border : (k i s t : ℕ) → s ≡ spread_of 32 (x_of k i) → t ≡ spread_of 32 (y_of k i) → 0 < s → s < spread_of 32 (2 ^ k - 1) → 0 < t → t < spread_of 32 (2 ^ k - 1) → IsOff k (x_of k i) (y_of k i)
off_border k i s t right up sp sl tp tl = record {
  x_above = x_positive_if_spread_positive (x_of k i) s right sp;
  x_below = x_below_last k (x_of k i) s (x_of-lt k i) right sl;
  y_above = x_positive_if_spread_positive (y_of k i) t up tp;
  y_below = x_below_last k (y_of k i) t (y_of-lt k i) up tl;
}

x_of-all : (k : ℕ) → x_of k (4 ^ k - 1) ≡ 2 ^ k - 1
unfolding x_of
x_of-all zero = refl
x_of-all (suc k) =
    let four = pow_suc 4 k in
    let two = pow_suc 2 k in
    let pos = four_pow_pos k in
    let up : (4 ^ suc k - 1) / 4 ≡ 4 ^ k - 1 = omega (arith, four, pos) in
    let low : (4 ^ suc k - 1) % 4 % 2 ≡ 1 = omega (arith, four, pos) in
    let rest = x_of-all k in
    let side = x_of-lt k 0 in
    rw (up, low, rest) (omega (arith, two, side))

pub last_code : (k j : ℕ) → k ≤ 29 → j ≡ k → x_of 32 (1 * 2 ^ (2 * j) % 2 ^ 64 - 1) ≡ 2 ^ k - 1
last_code k j small level =
    let shifted : 1 * 2 ^ (2 * j) % 2 ^ 64 ≡ 4 ^ k = rw level (shl_four 1 k (omega arith) small ∙ omega arith) in
    let width : k + (32 - k) ≡ 32 = omega arith in
    ap (λ n. x_of 32 (n - 1)) shifted
    ∙ sym (ap (λ n. x_of n (4 ^ k - 1)) width)
    ∙ x_of-more k (32 - k) (4 ^ k - 1) (omega (arith, four_pow_pos k))
    ∙ x_of-all k
