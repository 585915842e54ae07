-- The polar caps: four triangles round a pole, each m long at m rows from it.
use Rattle.std.proofs.Common.{◌≡◌, ℕ, ◌+◌, ◌-◌, ◌*◌, ◌%◌, ◌<◌, ◌≤◌, ◌⊎◌, inl, inr, arith}
use Rattle.std.proofs.Math.Nat.{mul-le-mul_right}
use Rattle.moc_sphere.specs.Private.Sides.{IsSameCorner}
use Rattle.moc_sphere.proofs.Lattice.{Split, split_sum, same_rest}

-- Position s of triangle a and position t of triangle c are the same, on a circle of four.
abbrev pub Turn : ℕ → ℕ → ℕ → ℕ → ℕ → Type 0
Turn m a c s t = Split m a c s t ⊎ (Split m a (c + 4) s t ⊎ Split m (a + 4) c s t)

pub turn_from_columns : (m a c s t : ℕ) → 0 < m → a < 4 → c < 4 → s ≤ m → t ≤ m
    → (a * m + s) % (4 * m) ≡ (c * m + t) % (4 * m) → Turn m a c s t
turn_from_columns m a c s t pos an cn sn tn columns =
    let af : a * m ≤ 3 * m = mul-le-mul_right m (omega arith) in
    let cf : c * m ≤ 3 * m = mul-le-mul_right m (omega arith) in
    elim (same_rest (4 * m) (a * m + s) (c * m + t) (omega arith) (omega arith) columns) [
      | inl e ↦ inl (split_sum m a c s t pos sn tn e)
      | inr (inl e) ↦ inr (inl (split_sum m a (c + 4) s t pos sn tn (omega arith)))
      | inr (inr e) ↦ inr (inr (split_sum m (a + 4) c s t pos sn tn (omega arith)))
    ]

pub IsSameCorner-north : (n m f g X Y Z W : ℕ) → f < 4 → g < 4 → X ≤ n → Y ≤ n → Z ≤ n → W ≤ n
    → m + X + Y ≡ 2 * n → m + Z + W ≡ 2 * n → Turn m f g (n - Y) (n - W) → IsSameCorner n f X Y g Z W
IsSameCorner-north n m f g X Y Z W fn gn xn yn zn wn e h turn = grind arith

pub IsSameCorner-north_pole : (n f g : ℕ) → f < 4 → g < 4 → IsSameCorner n f n n g n n
IsSameCorner-north_pole n f g fn gn = grind arith

pub IsSameCorner-south : (n m f g X Y Z W : ℕ) → 8 ≤ f → f < 12 → 8 ≤ g → g < 12 → X ≤ n → Y ≤ n → Z ≤ n → W ≤ n
    → m ≡ X + Y → m ≡ Z + W → Turn m (f - 8) (g - 8) X Z → IsSameCorner n f X Y g Z W
IsSameCorner-south n m f g X Y Z W fl fn gl gn xn yn zn wn e h turn = grind arith

pub IsSameCorner-south_pole : (n f g : ℕ) → 8 ≤ f → f < 12 → 8 ≤ g → g < 12 → IsSameCorner n f 0 0 g 0 0
IsSameCorner-south_pole n f g fl fn gl gn = grind arith
