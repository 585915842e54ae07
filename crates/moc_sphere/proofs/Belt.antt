-- The belt as squares of a lattice, which repeats after a shift of four squares on one axis and minus four on the
-- other.
use Rattle.std.proofs.Common.{◌≡◌, ℕ, ◌+◌, ◌-◌, ◌*◌, ◌/◌, ◌%◌, ◌<◌, ◌≤◌, ◌⊎◌, inl, inr, arith, refl, ap, ◌&&◌, ◌==◌, Bool, true}
use Rattle.std.proofs.lemmas.Bool.{agree_below_at, and_parts, eqb-true}
use Rattle.std.proofs.Math.Nat.{mul-le-mul_right}
use Rattle.moc_sphere.specs.Private.Sides.{IsSameCorner}
use Rattle.moc_sphere.specs.Rings.{row_factor, column_factor, column_at}
use Rattle.moc_sphere.specs.Touching.{corner_row}
use Rattle.moc_sphere.proofs.Lattice.{Hop, split_sum, same_rest}

-- Base pixel f is the square (a, b) of the lattice.
abbrev pub IsSquare : ℕ → ℕ → ℕ → Type 0
IsSquare f a b =
    ((f < 4) × (a ≡ f + 1) × (b + f ≡ 4))
    ⊎ (((4 ≤ f) × (f < 8) × (a + 4 ≡ f) × (b + f ≡ 8))
    ⊎ ((8 ≤ f) × (f < 12) × (a + 8 ≡ f) × (b + f ≡ 11)))

-- A hop in the lattice makes two corners the same point.
pub IsSameCorner-hop : (n f g a b c d X Y Z W : ℕ) → 0 < n → IsSquare f a b → IsSquare g c d
    → X ≤ n → Y ≤ n → Z ≤ n → W ≤ n → Hop n a b c d X Y Z W → IsSameCorner n f X Y g Z W
IsSameCorner-hop n f g a b c d X Y Z W pos p q xn yn zn wn hop = grind arith

abbrev tables_agree : ℕ → Bool
tables_agree f = (row_factor f == 2 + f / 4) && (column_factor f + f / 4 % 2 == 2 * (f % 4) + 1)

pub row_factor_is : (f : ℕ) → f < 12 → row_factor f ≡ 2 + f / 4
row_factor_is f h = eqb-true _ _ (and_parts _ _ (agree_below_at tables_agree (λ _. true) 12 f refl h)).0

pub column_factor_is : (f : ℕ) → f < 12 → column_factor f + f / 4 % 2 ≡ 2 * (f % 4) + 1
column_factor_is f h = eqb-true _ _ (and_parts _ _ (agree_below_at tables_agree (λ _. true) 12 f refl h)).1

-- The square of a base pixel, in terms of its row factor and its column factor.
pub record Square (f a b : ℕ) : Type 0 where
  pub is : IsSquare f a b
  pub rows : row_factor f + a + b ≡ 7
  pub columns : a + 4 ≡ column_factor f + b
  pub low : 2 ≤ row_factor f
  pub bounded : column_factor f ≤ 7

pub square_of : (f : ℕ) → f < 12 → Square f (f % 4 + 1 - (f / 4 + 1) / 2) (4 - f % 4 - f / 4 / 2)
square_of f h =
    let r = row_factor_is f h in
    let c = column_factor_is f h in
    record { is = grind arith; rows = grind arith; columns = grind arith; low = grind arith; bounded = grind arith }

-- Two lattice corners in one row whose columns are congruent are a hop apart.
pub hop_from_columns : (n J K a b L M c d X Y Z W : ℕ) → 0 < n
    → X ≤ n → Y ≤ n → Z ≤ n → W ≤ n
    → J + a + b ≡ 7 → a + 4 ≡ K + b → 2 ≤ J → K ≤ 7
    → L + c + d ≡ 7 → c + 4 ≡ M + d → 2 ≤ L → M ≤ 7
    → J * n - X - Y ≡ L * n - Z - W
    → (K * n + 8 * n + X - Y) % (8 * n) ≡ (M * n + 8 * n + Z - W) % (8 * n)
    → Hop n a b c d X Y Z W
hop_from_columns n J K a b L M c d X Y Z W pos xn yn zn wn j k jlow kfew l m llow mfew rows columns =
    let j' : J * n + a * n + b * n ≡ 7 * n = omega (arith, ap (λ t. t * n) j) in
    let k' : a * n + 4 * n ≡ K * n + b * n = omega (arith, ap (λ t. t * n) k) in
    let l' : L * n + c * n + d * n ≡ 7 * n = omega (arith, ap (λ t. t * n) l) in
    let m' : c * n + 4 * n ≡ M * n + d * n = omega (arith, ap (λ t. t * n) m) in
    let jl : 2 * n ≤ J * n = mul-le-mul_right n jlow in
    let ll : 2 * n ≤ L * n = mul-le-mul_right n llow in
    let kf : K * n ≤ 7 * n = mul-le-mul_right n kfew in
    let mf : M * n ≤ 7 * n = mul-le-mul_right n mfew in
    elim (same_rest (8 * n) (K * n + 8 * n + X - Y) (M * n + 8 * n + Z - W) (omega arith) (omega arith) columns) [
      | inl e ↦ inl (split_sum n a c X Z pos xn zn (omega arith), split_sum n b d Y W pos yn wn (omega arith))
      | inr (inl e) ↦ inr (inl (split_sum n a (c + 4) X Z pos xn zn (omega arith), split_sum n (b + 4) d Y W pos yn wn (omega arith)))
      | inr (inr e) ↦ inr (inr (split_sum n (a + 4) c X Z pos xn zn (omega arith), split_sum n b (d + 4) Y W pos yn wn (omega arith)))
    ]

-- Two corners in the belt that have the same row and the same column are the same point.
pub IsSameCorner-belt : (n f g X Y Z W : ℕ) → 0 < n → f < 12 → g < 12 → X ≤ n → Y ≤ n → Z ≤ n → W ≤ n
    → corner_row n f X Y ≡ corner_row n g Z W → column_at n f X Y ≡ column_at n g Z W → IsSameCorner n f X Y g Z W
unfolding corner_row
IsSameCorner-belt n f g X Y Z W pos fn gn xn yn zn wn rows columns =
    let s = square_of f fn in
    let t = square_of g gn in
    IsSameCorner-hop n f g _ _ _ _ X Y Z W pos s.is t.is xn yn zn wn
    (hop_from_columns n (row_factor f) (column_factor f) _ _ (row_factor g) (column_factor g) _ _ X Y Z W pos xn yn zn wn
    s.rows s.columns s.low s.bounded t.rows t.columns t.low t.bounded rows columns)
