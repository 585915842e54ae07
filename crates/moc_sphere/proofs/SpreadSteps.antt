-- The spread bits of the numbers before and after a number.
use Rattle.std.proofs.Common.{◌≡◌, ℕ, zero, suc, ◌+◌, ◌-◌, ◌*◌, ◌/◌, ◌%◌, ◌^◌, ◌<◌, inl, inr, refl, ap, sym, ◌∙◌, arith}
use Rattle.std.specs.Prelude.{bit_and}
use Rattle.std.proofs.lemmas.Bool.{cases_lt}
use Rattle.moc_sphere.specs.Faces.{x_of}
use Rattle.moc_sphere.specs.Private.Spread.{spread_of}
use Rattle.moc_sphere.proofs.BitBlocks.{spaced_ones, spaced_even, comb_1, and_below}
use Rattle.moc_sphere.proofs.CellFacts.{spread_of-zero}
use Rattle.moc_sphere.proofs.Places.{pow_suc, x_of-spread}

pub spread_of-ascends : (k x y : ℕ) → x < y → y < 2 ^ k → spread_of k x < spread_of k y
unfolding spread_of
spread_of-ascends zero x y lt fits = absurd (omega arith)
spread_of-ascends (suc k) x y lt fits = elim (cases_lt (x / 2) (y / 2)) [
  | inl less ↦ let rest = spread_of-ascends k (x / 2) (y / 2) less (omega (arith, pow_suc 2 k)) in omega arith
  | inr same ↦ let e : x / 2 ≡ y / 2 = omega arith in let rest = ap (spread_of k) e in omega arith
]

-- the spread bits of a positive number are positive
pub spread_of-positive : (k x : ℕ) → 0 < x → x < 2 ^ k → 0 < spread_of k x
spread_of-positive k x pos fits = omega (arith, spread_of-ascends k 0 x pos fits)

-- the greatest number of spread bits
pub spread_of-most : spread_of 32 (2 ^ 32 - 1) ≡ 0x5555_5555_5555_5555
unfolding spread_of
spread_of-most = refl

pub spread_of-below : (x : ℕ) → x + 1 < 2 ^ 32 → spread_of 32 x < 0x5555_5555_5555_5555
spread_of-below x fits = omega (arith, spread_of-ascends 32 x (2 ^ 32 - 1) (omega arith) (omega arith), spread_of-most)

x_of-alone : (k x : ℕ) → x < 2 ^ k → x_of k (spread_of k x) ≡ x
x_of-alone k x fits =
    let none = spread_of-zero k in
    let e : spread_of k x ≡ spread_of k x + 2 * spread_of k 0 = omega arith in
    ap (x_of k) e ∙ x_of-spread k x 0 fits

-- ---- subtraction of one: a digit 0 borrows, and gives the bit 1

x_of_spread_predecessor : (k x : ℕ) → 0 < x → x < 2 ^ k → x_of k (spread_of k x - 1) ≡ x - 1
unfolding x_of spread_of
x_of_spread_predecessor zero x pos fits = absurd (omega arith)
x_of_spread_predecessor (suc k) x pos fits =
    let s = spread_of k (x / 2) in
    let half : x / 2 < 2 ^ k = omega (arith, pow_suc 2 k) in
    elim (cases_lt 0 (x % 2)) [
      | inl odd ↦
          let up : (4 * s + x % 2 - 1) / 4 ≡ s = omega arith in
          let low : (4 * s + x % 2 - 1) % 4 % 2 ≡ 0 = omega arith in
          let rest = x_of-alone k (x / 2) half in
          rw (up, low, rest) (omega arith)
      | inr even ↦
          let some = spread_of-positive k (x / 2) (omega arith) half in
          let up : (4 * s + x % 2 - 1) / 4 ≡ s - 1 = omega arith in
          let low : (4 * s + x % 2 - 1) % 4 % 2 ≡ 1 = omega arith in
          let rest = x_of_spread_predecessor k (x / 2) (omega arith) half in
          rw (up, low, rest) (omega arith)
    ]

-- ---- addition of one, if each position between is set: a digit 1 carries

-- the positions between k bits
spread_gaps : ℕ → ℕ
spread_gaps zero = 0
spread_gaps (suc k) = 4 * spread_gaps k + 2

filling_is : spread_gaps 32 ≡ 0xaaaa_aaaa_aaaa_aaaa
unfolding spread_gaps
filling_is = refl

x_of_spread_filled : (k x : ℕ) → x < 2 ^ k → x_of k (spread_of k x + spread_gaps k) ≡ x
unfolding x_of spread_of spread_gaps
x_of_spread_filled zero x fits = omega arith
x_of_spread_filled (suc k) x fits =
    let s = spread_of k (x / 2) in
    let up : (4 * s + x % 2 + (4 * spread_gaps k + 2)) / 4 ≡ s + spread_gaps k = omega arith in
    let low : (4 * s + x % 2 + (4 * spread_gaps k + 2)) % 4 % 2 ≡ x % 2 = omega arith in
    let rest = x_of_spread_filled k (x / 2) (omega (arith, pow_suc 2 k)) in
    rw (up, low, rest) (omega arith)

x_of_spread_successor : (k x : ℕ) → x + 1 < 2 ^ k → x_of k (spread_of k x + spread_gaps k + 1) ≡ x + 1
unfolding x_of spread_of spread_gaps
x_of_spread_successor zero x fits = absurd (omega arith)
x_of_spread_successor (suc k) x fits =
    let s = spread_of k (x / 2) in
    let side = pow_suc 2 k in
    elim (cases_lt 0 (x % 2)) [
      | inl odd ↦
          let up : (4 * s + x % 2 + (4 * spread_gaps k + 2) + 1) / 4 ≡ s + spread_gaps k + 1 = omega arith in
          let low : (4 * s + x % 2 + (4 * spread_gaps k + 2) + 1) % 4 % 2 ≡ 0 = omega arith in
          let rest = x_of_spread_successor k (x / 2) (omega arith) in
          rw (up, low, rest) (omega arith)
      | inr even ↦
          let up : (4 * s + x % 2 + (4 * spread_gaps k + 2) + 1) / 4 ≡ s + spread_gaps k = omega arith in
          let low : (4 * s + x % 2 + (4 * spread_gaps k + 2) + 1) % 4 % 2 ≡ 1 = omega arith in
          let rest = x_of_spread_filled k (x / 2) (omega arith) in
          rw (up, low, rest) (omega arith)
    ]

-- ---- as the code computes them

-- the mask keeps exactly the positions of spread bits
pub spread_mask : (s : ℕ) → bit_and s 0x5555_5555_5555_5555 ≡ spread_of 32 (x_of 32 s)
spread_mask s = spaced_ones (x_of 32 s) (bit_and s 0x5555_5555_5555_5555) (spaced_even s 0x5555_5555_5555_5555 comb_1) (and_below s 0x5555_5555_5555_5555 (omega arith))

pub before_is : (s x : ℕ) → 0 < x → x < 2 ^ 32 → s ≡ spread_of 32 x → bit_and (s - 1) 0x5555_5555_5555_5555 ≡ spread_of 32 (x - 1)
before_is s x pos fits e = ap (λ n. bit_and (n - 1) 0x5555_5555_5555_5555) e ∙ spread_mask (spread_of 32 x - 1) ∙ ap (spread_of 32) (x_of_spread_predecessor 32 x pos fits)

pub after_is : (s x : ℕ) → x + 1 < 2 ^ 32 → s ≡ spread_of 32 x → bit_and (s + 0xaaaa_aaaa_aaaa_aaaa + 1) 0x5555_5555_5555_5555 ≡ spread_of 32 (x + 1)
after_is s x fits e =
    let sum : s + 0xaaaa_aaaa_aaaa_aaaa + 1 ≡ spread_of 32 x + spread_gaps 32 + 1 = λ i. e i + sym filling_is i + 1 in
    ap (λ n. bit_and n 0x5555_5555_5555_5555) sum ∙ spread_mask (spread_of 32 x + spread_gaps 32 + 1) ∙ ap (spread_of 32) (x_of_spread_successor 32 x fits)
