-- All coordinates of a corner, in any base pixel, are the same point of the sphere.
use Rattle.std.proofs.Common.{◌≡◌, ℕ, ◌+◌, ◌-◌, ◌*◌, ◌%◌, ◌<◌, ◌≤◌, ◌⊎◌, inl, inr, arith, refl, ap, ◌∙◌, sym}
use Rattle.std.proofs.lemmas.Bool.{cases_lt}
use Rattle.std.proofs.Math.Nat.{add-mod_right}
use Rattle.moc_sphere.specs.Private.Sides.{IsSameCorner}
use Rattle.moc_sphere.specs.Rings.{column_factor, column_at}
use Rattle.moc_sphere.specs.Touching.{corner_row, corner_column, polar_column}
use Rattle.moc_sphere.proofs.Shared.{IsSamePoint}
use Rattle.moc_sphere.proofs.Lattice.{Hop, Split}
use Rattle.moc_sphere.proofs.Belt.{IsSquare, square_of}
use Rattle.moc_sphere.proofs.Columns.{column_in_belt, column_near_north, column_near_south, column_north, column_south, polar_column_at_pole}
use Rattle.moc_sphere.proofs.Caps.{Turn}
use Rattle.moc_sphere.proofs.Points.{kind}

pub join : (n a b X Z : ℕ) → Split n a b X Z → a * n + X ≡ b * n + Z
join n a b X Z s =
    elim s [
      | inl e ↦ let p = ap (λ t. t * n) e.0 in omega arith
      | inr (inl e) ↦ let p : b * n ≡ a * n + n = omega (arith, ap (λ t. t * n) e.0) in omega arith
      | inr (inr e) ↦ let p : a * n ≡ b * n + n = omega (arith, ap (λ t. t * n) e.0) in omega arith
    ]

-- a number and the number one period later are congruent
pub rest_of_equal : (m a b : ℕ) → (a ≡ b) ⊎ ((a ≡ b + m) ⊎ (b ≡ a + m)) → a % m ≡ b % m
rest_of_equal m a b h =
    elim h [
      | inl e ↦ ap (λ t. t % m) e
      | inr (inl e) ↦ ap (λ t. t % m) e ∙ add-mod_right b m
      | inr (inr e) ↦ sym (ap (λ t. t % m) e ∙ add-mod_right a m)
    ]

pub IsSameCorner-names : (n f g X Y Z W : ℕ) → f < 12 → X ≤ n → Y ≤ n → IsSameCorner n f X Y g Z W → (g < 12) × (Z ≤ n) × (W ≤ n)
IsSameCorner-names n f g X Y Z W fn xn yn m = grind arith

-- the rows
pub IsSameCorner-row : (n f g X Y Z W R S : ℕ) → X ≤ n → Y ≤ n → IsSameCorner n f X Y g Z W
    → ((f < 4) × (R + X + Y ≡ 2 * n)) ⊎ (((4 ≤ f) × (f < 8) × (R + X + Y ≡ 3 * n)) ⊎ ((8 ≤ f) × (f < 12) × (R + X + Y ≡ 4 * n)))
    → ((g < 4) × (S + Z + W ≡ 2 * n)) ⊎ (((4 ≤ g) × (g < 8) × (S + Z + W ≡ 3 * n)) ⊎ ((8 ≤ g) × (g < 12) × (S + Z + W ≡ 4 * n)))
    → R ≡ S
IsSameCorner-row n f g X Y Z W R S xn yn m k l = grind arith

-- the belt
pub hop_from_Meets : (n f g a b c d X Y Z W R : ℕ) → 0 < n → X ≤ n → Y ≤ n → IsSquare f a b → IsSquare g c d
    → ((f < 4) × (R + X + Y ≡ 2 * n)) ⊎ (((4 ≤ f) × (f < 8) × (R + X + Y ≡ 3 * n)) ⊎ ((8 ≤ f) × (f < 12) × (R + X + Y ≡ 4 * n)))
    → n ≤ R → R ≤ 3 * n → IsSameCorner n f X Y g Z W → Hop n a b c d X Y Z W
hop_from_Meets n f g a b c d X Y Z W R pos xn yn p q k low high m = grind arith

pub columns_from_hop : (n K a b M c d X Y Z W : ℕ) → X ≤ n → Y ≤ n → Z ≤ n → W ≤ n
    → a + 4 ≡ K + b → c + 4 ≡ M + d → Hop n a b c d X Y Z W
    → (K * n + 8 * n + X - Y) % (8 * n) ≡ (M * n + 8 * n + Z - W) % (8 * n)
columns_from_hop n K a b M c d X Y Z W xn yn zn wn k m hop =
    let k' : a * n + 4 * n ≡ K * n + b * n = omega (arith, ap (λ t. t * n) k) in
    let m' : c * n + 4 * n ≡ M * n + d * n = omega (arith, ap (λ t. t * n) m) in
    elim hop [
      | inl e ↦
          let u = join n a c X Z e.0 in
          let v = join n b d Y W e.1 in
          rest_of_equal (8 * n) _ _ (inl (omega arith))
      | inr (inl e) ↦
          let u = join n a (c + 4) X Z e.0 in
          let v = join n (b + 4) d Y W e.1 in
          rest_of_equal (8 * n) _ _ (inr (inl (omega arith)))
      | inr (inr e) ↦
          let u = join n (a + 4) c X Z e.0 in
          let v = join n b (d + 4) Y W e.1 in
          rest_of_equal (8 * n) _ _ (inr (inr (omega arith)))
    ]

-- the caps
pub turn_north_from_Meets : (n m f g X Y Z W : ℕ) → 0 < m → m < n → f < 4 → g < 12 → X ≤ n → Y ≤ n → m + X + Y ≡ 2 * n
    → IsSameCorner n f X Y g Z W → (g < 4) × Turn m f g (n - Y) (n - W)
turn_north_from_Meets n m f g X Y Z W pos low fn gn xn yn e h = grind arith

pub turn_south_from_Meets : (n m f g X Y Z W : ℕ) → 0 < m → m < n → 8 ≤ f → f < 12 → g < 12 → X ≤ n → Y ≤ n → m ≡ X + Y
    → IsSameCorner n f X Y g Z W → (8 ≤ g) × Turn m (f - 8) (g - 8) X Z
turn_south_from_Meets n m f g X Y Z W pos low fl fn gn xn yn e h = grind arith

pub columns_from_turn : (m a c s t : ℕ) → Turn m a c s t → (a * m + s) % (4 * m) ≡ (c * m + t) % (4 * m)
columns_from_turn m a c s t turn =
    elim turn [
      | inl e ↦ rest_of_equal (4 * m) _ _ (inl (join m a c s t e))
      | inr (inl e) ↦ let u = join m a (c + 4) s t e in rest_of_equal (4 * m) _ _ (inr (inl (omega arith)))
      | inr (inr e) ↦ let u = join m (a + 4) c s t e in rest_of_equal (4 * m) _ _ (inr (inr (omega arith)))
    ]

module _ (n f g X Y Z W : ℕ) (pos : 0 < n) (fn : f < 12) (xn : X ≤ n) (yn : Y ≤ n) (h : IsSameCorner n f X Y g Z W) where
  same_row : corner_row n f X Y ≡ corner_row n g Z W
  same_row =
      let t = IsSameCorner-names n f g X Y Z W fn xn yn h in
      IsSameCorner-row n f g X Y Z W _ _ xn yn h (kind n f X Y fn xn yn) (kind n g Z W t.0 t.1 t.2)

  same_in_belt : n ≤ corner_row n f X Y → corner_row n f X Y ≤ 3 * n → column_at n f X Y ≡ column_at n g Z W
  same_in_belt low high =
      let t = IsSameCorner-names n f g X Y Z W fn xn yn h in
      let p = square_of f fn in
      let q = square_of g t.0 in
      columns_from_hop n (column_factor f) _ _ (column_factor g) _ _ X Y Z W xn yn t.1 t.2 p.columns q.columns
      (hop_from_Meets n f g _ _ _ _ X Y Z W (corner_row n f X Y) pos xn yn p.is q.is (kind n f X Y fn xn yn) low high h)

  same_in_north : (m : ℕ) → m ≡ corner_row n f X Y → m < n → polar_column m f X Y ≡ polar_column m g Z W
  same_in_north m is low =
      let t = IsSameCorner-names n f g X Y Z W fn xn yn h in
      let k = kind n f X Y fn xn yn in
      let l = kind n g Z W t.0 t.1 t.2 in
      let r = same_row in
      let f4 : f < 4 = grind arith in
      elim (cases_lt 0 m) [
        | inl s ↦
            let u = turn_north_from_Meets n m f g X Y Z W s low f4 t.0 xn yn (omega arith) h in
            column_north n m f X Y s (omega arith) xn yn f4 ∙ columns_from_turn m f g (n - Y) (n - W) u.1
            ∙ sym (column_north n m g Z W s (omega arith) t.1 t.2 u.0)
        | inr s ↦ let z : m ≡ 0 = omega arith in polar_column_at_pole m f X Y z ∙ sym (polar_column_at_pole m g Z W z)
      ]

  same_in_south : (m : ℕ) → m + corner_row n f X Y ≡ 4 * n → m < n → polar_column m f X Y ≡ polar_column m g Z W
  same_in_south m is low =
      let t = IsSameCorner-names n f g X Y Z W fn xn yn h in
      let k = kind n f X Y fn xn yn in
      let l = kind n g Z W t.0 t.1 t.2 in
      let r = same_row in
      let f8 : 8 ≤ f = grind arith in
      elim (cases_lt 0 m) [
        | inl s ↦
            let u = turn_south_from_Meets n m f g X Y Z W s low f8 fn t.0 xn yn (omega arith) h in
            let g8 = u.0 in
            column_south n m f X Y s (omega arith) f8 fn ∙ columns_from_turn m (f - 8) (g - 8) X Z u.1
            ∙ sym (column_south n m g Z W s (omega arith) g8 t.0)
        | inr s ↦ let z : m ≡ 0 = omega arith in polar_column_at_pole m f X Y z ∙ sym (polar_column_at_pole m g Z W z)
      ]

  same_column : corner_column n f X Y ≡ corner_column n g Z W
  same_column =
      let r = same_row in
      elim (cases_lt (corner_row n f X Y) n) [
        | inl s ↦
            column_near_north n f X Y s ∙ same_in_north (corner_row n f X Y) refl s
            ∙ ap (λ t. polar_column t g Z W) r ∙ sym (column_near_north n g Z W (omega arith))
        | inr s ↦
            elim (cases_lt (3 * n) (corner_row n f X Y)) [
              | inl t ↦
                  let k = kind n f X Y fn xn yn in
                  let top : corner_row n f X Y ≤ 4 * n = grind arith in
                  column_near_south n f X Y t top ∙ same_in_south (4 * n - corner_row n f X Y) (omega arith) (omega arith)
                  ∙ ap (λ u. polar_column (4 * n - u) g Z W) r ∙ sym (column_near_south n g Z W (omega arith) (omega arith))
              | inr t ↦
                  column_in_belt n f X Y s t ∙ same_in_belt s t ∙ sym (column_in_belt n g Z W (omega arith) (omega arith))
            ]
      ]

  pub same_point-from_Meets : IsSamePoint n f X Y g Z W
  same_point-from_Meets = record { row = same_row; column = same_column }
