-- Two corners are the same point of the sphere exactly if their coordinates name one point.
use Rattle.std.proofs.Common.{◌≡◌, ℕ, ◌+◌, ◌-◌, ◌*◌, ◌<◌, ◌≤◌, ◌⊎◌, inl, inr, arith, ap, ◌∙◌, sym}
use Rattle.std.proofs.lemmas.Bool.{cases_lt}
use Rattle.moc_sphere.specs.Private.Sides.{IsSameCorner}
use Rattle.moc_sphere.specs.Touching.{corner_row, polar_column}
use Rattle.moc_sphere.proofs.Shared.{IsSamePoint}
use Rattle.moc_sphere.proofs.Belt.{IsSameCorner-belt}
use Rattle.moc_sphere.proofs.Columns.{row_north, row_equator, row_south, column_in_belt, column_near_north, column_near_south, column_north, column_south}
use Rattle.moc_sphere.proofs.Caps.{turn_from_columns, IsSameCorner-north, IsSameCorner-south}

-- The three zones of base pixels, with the row of a corner.
abbrev pub Kind : ℕ → ℕ → ℕ → ℕ → Type 0
Kind n f X Y =
    ((f < 4) × (corner_row n f X Y + X + Y ≡ 2 * n))
    ⊎ (((4 ≤ f) × (f < 8) × (corner_row n f X Y + X + Y ≡ 3 * n))
    ⊎ ((8 ≤ f) × (f < 12) × (corner_row n f X Y + X + Y ≡ 4 * n)))

pub kind : (n f X Y : ℕ) → f < 12 → X ≤ n → Y ≤ n → Kind n f X Y
kind n f X Y h xn yn =
    elim (cases_lt f 4) [
      | inl s ↦ inl (s, omega (arith, row_north n f X Y s))
      | inr s ↦
          elim (cases_lt f 8) [
            | inl t ↦ inr (inl (s, t, omega (arith, row_equator n f X Y s t)))
            | inr t ↦ inr (inr (t, h, omega (arith, row_south n f X Y t h)))
          ]
    ]

module _ (n f g X Y Z W : ℕ) (pos : 0 < n) (fn : f < 12) (gn : g < 12) (xn : X ≤ n) (yn : Y ≤ n) (zn : Z ≤ n) (wn : W ≤ n) where
  -- if the two corners are the same point, their coordinates name one point
  north_case : corner_row n f X Y < n → IsSamePoint n f X Y g Z W → IsSameCorner n f X Y g Z W
  north_case low p =
      let k = kind n f X Y fn xn yn in
      let l = kind n g Z W gn zn wn in
      let r = p.row in
      let f4 : f < 4 = grind arith in
      let g4 : g < 4 = grind arith in
      let m = corner_row n f X Y in
      let e : m + X + Y ≡ 2 * n = grind arith in
      let h : m + Z + W ≡ 2 * n = grind arith in
      elim (cases_lt 0 m) [
        | inl s ↦
            let c : polar_column m f X Y ≡ polar_column m g Z W =
            sym (column_near_north n f X Y low) ∙ p.column ∙ column_near_north n g Z W (omega arith) ∙ ap (λ t. polar_column t g Z W) (sym r) in
            IsSameCorner-north n m f g X Y Z W f4 g4 xn yn zn wn e h
            (turn_from_columns m f g (n - Y) (n - W) s f4 g4 (omega arith) (omega arith)
            (sym (column_north n m f X Y s e xn yn f4) ∙ c ∙ column_north n m g Z W s h zn wn g4))
        | inr s ↦ grind arith
      ]

  south_case : 3 * n < corner_row n f X Y → IsSamePoint n f X Y g Z W → IsSameCorner n f X Y g Z W
  south_case high p =
      let k = kind n f X Y fn xn yn in
      let l = kind n g Z W gn zn wn in
      let r = p.row in
      let f8 : 8 ≤ f = grind arith in
      let g8 : 8 ≤ g = grind arith in
      let m = 4 * n - corner_row n f X Y in
      let e : m ≡ X + Y = grind arith in
      let h : m ≡ Z + W = grind arith in
      elim (cases_lt 0 m) [
        | inl s ↦
            let c : polar_column m f X Y ≡ polar_column m g Z W =
            sym (column_near_south n f X Y high (omega arith)) ∙ p.column ∙ column_near_south n g Z W (omega arith) (omega arith)
            ∙ ap (λ t. polar_column (4 * n - t) g Z W) (sym r) in
            IsSameCorner-south n m f g X Y Z W f8 fn g8 gn xn yn zn wn e h
            (turn_from_columns m (f - 8) (g - 8) X Z s (omega arith) (omega arith) (omega arith) (omega arith)
            (sym (column_south n m f X Y s e f8 fn) ∙ c ∙ column_south n m g Z W s h g8 gn))
        | inr s ↦ grind arith
      ]

  pub IsSameCorner-from_same_point : IsSamePoint n f X Y g Z W → IsSameCorner n f X Y g Z W
  IsSameCorner-from_same_point p =
      elim (cases_lt (corner_row n f X Y) n) [
        | inl s ↦ north_case s p
        | inr s ↦
            elim (cases_lt (3 * n) (corner_row n f X Y)) [
              | inl t ↦ south_case t p
              | inr t ↦
                  let r = p.row in
                  IsSameCorner-belt n f g X Y Z W pos fn gn xn yn zn wn r
                  (sym (column_in_belt n f X Y s t) ∙ p.column ∙ column_in_belt n g Z W (omega arith) (omega arith))
            ]
      ]
