-- Ring numbers counted from the nearer pole: the last four base pixels are the first four, mirrored in the equator.
use Rattle.std.proofs.Common.{◌≡◌, ℕ, zero, suc, ◌+◌, ◌-◌, ◌*◌, ◌/◌, ◌%◌, ◌<◌, ◌≤◌, min, inl, inr, refl, sym, ap, ◌∙◌, arith}
use Rattle.std.proofs.lemmas.Bool.{cases_lt}
use Rattle.std.proofs.Math.Nat.{mul-le-mul_right}
use Rattle.moc_sphere.specs.Rings.{row_at, column_at, column_factor}
use Rattle.moc_sphere.specs.Private.RingFormula.{row_start, place_in_row}
use Rattle.moc_sphere.proofs.Belt.{row_factor_is, column_factor_is}
use Rattle.moc_sphere.proofs.RingOrder.{start_below_n, start_from_n, start-south, place_below_n, place_from_n, place_in_south}
use Rattle.moc_sphere.proofs.Zones.{column_plain, column_wraps}

-- ---- the rows before a row, counted from a pole; s cells are a quarter of the row

pub nearer_north : (n r s : ℕ) → r ≤ 3 * n → s ≡ min r n → 2 * s * (s - 1) + 4 * n * (r - s) ≡ row_start n r
nearer_north n r s u least = elim (cases_lt r n) [
  | inl l ↦
      let e : s ≡ r = omega arith in
      let z : r - s ≡ 0 = omega arith in
      ap (λ t. 2 * t * (t - 1) + 4 * n * (r - s)) e ∙ ap (λ t. 2 * r * (r - 1) + 4 * n * t) z ∙ omega arith ∙ sym (start_below_n n r l)
  | inr g ↦
      let e : s ≡ n = omega arith in
      ap (λ t. 2 * t * (t - 1) + 4 * n * (r - t)) e ∙ sym (start_from_n n r g u)
]

-- the same for the row at this distance from the other pole, with the rows from it on
both_caps : (n r : ℕ) → 0 < r → r < n → row_start n (4 * n - r) + 2 * r * (r - 1) + 4 * r ≡ 12 * n * n
both_caps n zero pos l = absurd (omega arith)
both_caps n (suc p) pos l =
    let d : suc p - 1 ≡ p = omega arith in
    omega (arith, start-south n (4 * n - suc p) (suc p) l (omega arith), ap (λ t. 2 * suc p * t) d)

both_belts : (n r : ℕ) → n ≤ r → r ≤ 3 * n → row_start n (4 * n - r) + (2 * n * (n - 1) + 4 * n * (r - n)) + 4 * n ≡ 12 * n * n
both_belts zero r l u = omega (arith, start_from_n 0 (4 * 0 - r) (omega arith) (omega arith))
both_belts (suc p) r l u =
    let d : suc p - 1 ≡ p = omega arith in
    let past : r - suc p + (4 * suc p - r - suc p) ≡ 2 * suc p = omega arith in
    let whole : 4 * suc p * (r - suc p) + 4 * suc p * (4 * suc p - r - suc p) ≡ 4 * suc p * (2 * suc p) =
    omega arith ∙ ap (λ t. 4 * suc p * t) past in
    let here = start_from_n (suc p) (4 * suc p - r) (omega arith) (omega arith) ∙ ap (λ t. 2 * suc p * t + 4 * suc p * (4 * suc p - r - suc p)) d in
    omega (arith, here, whole, ap (λ t. 2 * suc p * t) d)

pub nearer_south : (n r s : ℕ) → 0 < r → r ≤ 3 * n → s ≡ min r n → row_start n (4 * n - r) + (2 * s * (s - 1) + 4 * n * (r - s)) + 4 * s ≡ 12 * n * n
nearer_south n r s pos u least = elim (cases_lt r n) [
  | inl l ↦
      let e : s ≡ r = omega arith in
      let z : r - s ≡ 0 = omega arith in
      ap (λ t. row_start n (4 * n - r) + (2 * t * (t - 1) + 4 * n * (r - s)) + 4 * t) e
      ∙ ap (λ t. row_start n (4 * n - r) + (2 * r * (r - 1) + 4 * n * t) + 4 * r) z
      ∙ omega (arith, both_caps n r pos l)
  | inr g ↦
      let e : s ≡ n = omega arith in
      ap (λ t. row_start n (4 * n - r) + (2 * t * (t - 1) + 4 * n * (r - t)) + 4 * t) e ∙ both_belts n r g u
]

-- ---- the position in a row of the first eight base pixels

row_of_first : (n f x y J : ℕ) → f < 8 → J ≡ 2 + f / 4 → row_at n f x y ≡ J * n - x - y - 1
row_of_first n f x y J w is = ap (λ m. m * n - x - y - 1) (row_factor_is f (omega arith) ∙ sym is)

-- the position, counted from the western edge, which may be to the east of the row's first cell
pub record IsWest (n east edge place : ℕ) : Type 0 where
  pub past : edge ≤ east → east ≡ place + edge
  pub round : east < edge → east + 4 * n ≡ place + edge

-- a position in the northern cap
west_cap : (n f x y r q : ℕ) → f < 4 → x < n → y < n → r ≡ row_at n f x y → r < n → q ≡ f % 4 → (q + 1) * r + x ≡ place_in_row n f x y + n
west_cap n f x y r q w l u row low east =
    let rows : row_at n f x y ≡ 2 * n - x - y - 1 = row_of_first n f x y 2 (omega arith) (omega arith) in
    let place : place_in_row n f x y ≡ q * r + (n - 1 - y) =
    place_below_n n f x y (omega arith) ∙ (λ i. sym east i * sym row i + (n - 1 - y)) in
    omega arith

-- a position in the belt
west_belt : (n f x y r q c : ℕ) → r ≡ row_at n f x y → n ≤ r → r ≤ 3 * n → column_at n f x y ≡ c → place_in_row n f x y ≡ c / 2
west_belt n f x y r q c row low high column = place_from_n n f x y (omega arith) (omega arith) ∙ ap (λ c. c / 2) column

column_of_first : (n f x y : ℕ) → f < 4 → x < n → y < n → column_at n f x y ≡ (2 * f + 1) * n + x - y
column_of_first n f x y w l u =
    let e : column_factor f ≡ 2 * f + 1 = omega (arith, column_factor_is f (omega arith)) in
    let bound : f * n ≤ 3 * n = mul-le-mul_right n (omega arith) in
    ap (λ m. (m * n + 8 * n + x - y) % (8 * n)) e
    ∙ column_plain n (2 * f + 1) x y ((2 * f + 1) * n + x - y) (omega arith) (omega arith)

column_of_middle : (n q x y : ℕ) → q < 4 → x < n → y < n → y ≤ 2 * q * n + x → column_at n (4 + q) x y ≡ 2 * q * n + x - y
column_of_middle n q x y w l u fits =
    let e : column_factor (4 + q) ≡ 2 * q = omega (arith, column_factor_is (4 + q) (omega arith)) in
    let bound : q * n ≤ 3 * n = mul-le-mul_right n (omega arith) in
    ap (λ m. (m * n + 8 * n + x - y) % (8 * n)) e
    ∙ column_plain n (2 * q) x y (2 * q * n + x - y) (omega arith) (omega arith)

west_first : (n f x y r s q : ℕ) → f < 4 → x < n → y < n → r ≡ row_at n f x y → s ≡ min r n → q ≡ f % 4
    → (q + 1) * s + x + (r - s + 1) / 2 ≡ place_in_row n f x y + n
west_first n f x y r s q w l u row least east =
    let rows : row_at n f x y ≡ 2 * n - x - y - 1 = row_of_first n f x y 2 (omega arith) (omega arith) in
    elim (cases_lt r n) [
      | inl low ↦
          let e : s ≡ r = omega arith in
          let none : (r - s + 1) / 2 ≡ 0 = omega arith in
          ap (λ t. (q + 1) * t + x + (r - s + 1) / 2) e ∙ omega (arith, none, west_cap n f x y r q w l u row low east)
      | inr high ↦
          let e : s ≡ n = omega arith in
          let f_is : q ≡ f = omega arith in
          let place = west_belt n f x y r q ((2 * f + 1) * n + x - y) row high (omega arith) (column_of_first n f x y w l u) in
          ap (λ t. (q + 1) * t + x + (r - t + 1) / 2) e ∙ ap (λ t. (t + 1) * n + x + (r - n + 1) / 2) f_is ∙ omega (arith, place)
    ]

west_middle : (n q x y r s : ℕ) → q < 4 → x < n → y < n → r ≡ row_at n (4 + q) x y → s ≡ min r n
    → IsWest n ((q + 1) * s + x + (r - s + 1) / 2) (2 * n) (place_in_row n (4 + q) x y)
west_middle n zero x y r s w l u row least =
    let rows : row_at n 4 x y ≡ 3 * n - x - y - 1 = row_of_first n 4 x y 3 (omega arith) refl in
    let e : s ≡ n = omega arith in
    elim (cases_lt x y) [
      | inl turn ↦
          let place = west_belt n 4 x y r 0 (8 * n + x - y) row (omega arith) (omega arith) (column_wraps n x y turn u) in
          record { past = λ h. absurd (omega arith); round = λ h. omega (arith, place) }
      | inr plain ↦
          let place = west_belt n 4 x y r 0 (2 * 0 * n + x - y) row (omega arith) (omega arith) (column_of_middle n 0 x y w l u (omega arith)) in
          record { past = λ h. omega (arith, place); round = λ h. absurd (omega arith) }
    ]
west_middle n (suc p) x y r s w l u row least =
    let rows : row_at n (4 + suc p) x y ≡ 3 * n - x - y - 1 = row_of_first n (4 + suc p) x y 3 (omega arith) (omega arith) in
    let e : s ≡ n = omega arith in
    let product : (suc p + 1) * s ≡ p * n + 2 * n = ap (λ t. (suc p + 1) * t) e ∙ omega arith in
    let place = west_belt n (4 + suc p) x y r 0 (2 * suc p * n + x - y) row (omega arith) (omega arith)
    (column_of_middle n (suc p) x y w l u (omega arith)) in
    record { past = λ h. omega (arith, place, product); round = λ h. absurd (omega (arith, product)) }

pub west_is : (n f x y r s v w east edge : ℕ) → f < 8 → x < n → y < n → r ≡ row_at n f x y → s ≡ min r n
    → v ≡ f % 4 + 1 → w ≡ f / 4 + 1 → east ≡ v * s + x + (r - s + 1) / 2 → edge ≡ w * n
    → IsWest n east edge (place_in_row n f x y)
west_is n f x y r s v w east edge small l u row least quarters sides e g = elim (cases_lt f 4) [
  | inl first ↦
      let is = west_first n f x y r s (f % 4) first l u row least refl in
      let a : east ≡ place_in_row n f x y + n = e ∙ ap (λ t. t * s + x + (r - s + 1) / 2) quarters ∙ is in
      let one : w ≡ 1 = omega arith in
      let b : edge ≡ n = g ∙ ap (λ t. t * n) one ∙ omega arith in
      record { past = λ h. omega arith; round = λ h. absurd (omega arith) }
  | inr rest ↦
      let f_is : 4 + f % 4 ≡ f = omega arith in
      let q = f % 4 in
      let is : IsWest n ((q + 1) * s + x + (r - s + 1) / 2) (2 * n) (place_in_row n (4 + q) x y) =
      west_middle n q x y r s (omega arith) l u (row ∙ ap (λ f. row_at n f x y) (sym f_is)) least in
      let a : east ≡ (q + 1) * s + x + (r - s + 1) / 2 = e ∙ ap (λ t. t * s + x + (r - s + 1) / 2) quarters in
      let two : w ≡ 2 = omega arith in
      let b : edge ≡ 2 * n = g ∙ ap (λ t. t * n) two in
      let place : place_in_row n (4 + q) x y ≡ place_in_row n f x y = ap (λ f. place_in_row n f x y) f_is in
      record { past = λ h. omega (arith, is.past (omega arith), place); round = λ h. omega (arith, is.round (omega arith), place) }
]

-- ---- the mirror image in the equator

pub mirror_row : (n f x y : ℕ) → 8 ≤ f → f < 12 → x < n → y < n → row_at n (f % 8) (n - 1 - y) (n - 1 - x) + row_at n f x y ≡ 4 * n
mirror_row n f x y low high l u =
    let far : row_at n f x y ≡ 4 * n - x - y - 1 = ap (λ m. m * n - x - y - 1) (row_factor_is f high ∙ omega arith) in
    let near : row_at n (f % 8) (n - 1 - y) (n - 1 - x) ≡ 2 * n - (n - 1 - y) - (n - 1 - x) - 1 =
    row_of_first n (f % 8) (n - 1 - y) (n - 1 - x) 2 (omega arith) (omega arith) in
    omega arith

mirror_column : (n f x y : ℕ) → 8 ≤ f → f < 12 → x < n → y < n → column_at n (f % 8) (n - 1 - y) (n - 1 - x) ≡ column_at n f x y
mirror_column n f x y low high l u =
    let K = column_factor f in
    let same : column_factor (f % 8) ≡ K = omega (arith, column_factor_is f high, column_factor_is (f % 8) (omega arith)) in
    let steps : K * n + 8 * n + (n - 1 - y) - (n - 1 - x) ≡ K * n + 8 * n + x - y = omega arith in
    ap (λ m. (m * n + 8 * n + (n - 1 - y) - (n - 1 - x)) % (8 * n)) same ∙ ap (λ v. v % (8 * n)) steps

pub mirror_place : (n f x y : ℕ) → 8 ≤ f → f < 12 → x < n → y < n → place_in_row n (f % 8) (n - 1 - y) (n - 1 - x) ≡ place_in_row n f x y
mirror_place n f x y low high l u =
    let g = f % 8 in
    let a = n - 1 - y in
    let b = n - 1 - x in
    let rows = mirror_row n f x y low high l u in
    let near : row_at n g a b ≡ 2 * n - a - b - 1 = row_of_first n g a b 2 (omega arith) (omega arith) in
    elim (cases_lt (row_at n g a b) n) [
      | inl cap ↦
          let quarter : g % 4 ≡ f % 4 = omega arith in
          let m : row_at n g a b ≡ 4 * n - row_at n f x y = omega arith in
          let rest : n - 1 - b ≡ x = omega arith in
          place_below_n n g a b cap ∙ (λ i. quarter i * m i + rest i) ∙ sym (place_in_south n f x y (omega arith) (omega arith))
      | inr belt ↦
          place_from_n n g a b belt (omega arith) ∙ ap (λ c. c / 2) (mirror_column n f x y low high l u)
          ∙ sym (place_from_n n f x y (omega arith) (omega arith))
    ]
