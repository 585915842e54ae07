-- The row and the column of a corner, zone by zone.
use Rattle.std.proofs.Common.{◌≡◌, ℕ, ◌+◌, ◌-◌, ◌*◌, ◌/◌, ◌%◌, ◌<◌, ◌≤◌, arith, ap, ◌∙◌}
use Rattle.std.proofs.lemmas.Bool.{and_from, and_left, and_right, le-leb, lt-leb, cond-true, cond-false, ne_eqb, eq-eqb}
use Rattle.std.proofs.Math.Nat.{min-eq_left, min-eq_right}
use Rattle.moc_sphere.specs.Rings.{row_factor, column_at}
use Rattle.moc_sphere.specs.Touching.{corner_row, corner_column, polar_column}
use Rattle.moc_sphere.proofs.Belt.{row_factor_is}

pub row_north : (n f X Y : ℕ) → f < 4 → corner_row n f X Y ≡ 2 * n - X - Y
unfolding corner_row
row_north n f X Y h =
    let j : row_factor f ≡ 2 = omega (arith, row_factor_is f (omega arith)) in
    ap (λ t. t * n - X - Y) j

pub row_equator : (n f X Y : ℕ) → 4 ≤ f → f < 8 → corner_row n f X Y ≡ 3 * n - X - Y
unfolding corner_row
row_equator n f X Y l h =
    let j : row_factor f ≡ 3 = omega (arith, row_factor_is f (omega arith)) in
    ap (λ t. t * n - X - Y) j

pub row_south : (n f X Y : ℕ) → 8 ≤ f → f < 12 → corner_row n f X Y ≡ 4 * n - X - Y
unfolding corner_row
row_south n f X Y l h =
    let j : row_factor f ≡ 4 = omega (arith, row_factor_is f (omega arith)) in
    ap (λ t. t * n - X - Y) j

pub column_in_belt : (n f X Y : ℕ) → n ≤ corner_row n f X Y → corner_row n f X Y ≤ 3 * n → corner_column n f X Y ≡ column_at n f X Y
unfolding corner_column
column_in_belt n f X Y low high =
    cond-true _ _ _ (and_from _ _ (le-leb _ _ low) (le-leb _ _ high))

pub column_near_north : (n f X Y : ℕ) → corner_row n f X Y < n → corner_column n f X Y ≡ polar_column (corner_row n f X Y) f X Y
unfolding corner_column
column_near_north n f X Y low =
    cond-false _ _ _ (and_left _ _ (lt-leb _ _ low))
    ∙ ap (λ t. polar_column t f X Y) (min-eq_left (omega arith))

pub column_near_south : (n f X Y : ℕ) → 3 * n < corner_row n f X Y → corner_row n f X Y ≤ 4 * n → corner_column n f X Y ≡ polar_column (4 * n - corner_row n f X Y) f X Y
unfolding corner_column
column_near_south n f X Y low high =
    cond-false _ _ _ (and_right _ _ (lt-leb _ _ low))
    ∙ ap (λ t. polar_column t f X Y) (min-eq_right (omega arith))

pub polar_column_off_pole : (m f X Y : ℕ) → 0 < m → polar_column m f X Y ≡ (f % 4 * m + (X + m - Y) / 2) % (4 * m)
unfolding polar_column
polar_column_off_pole m f X Y pos = cond-false _ _ _ (ne_eqb m 0 (λ (e : m ≡ 0). omega arith))

pub polar_column_at_pole : (m f X Y : ℕ) → m ≡ 0 → polar_column m f X Y ≡ 0
unfolding polar_column
polar_column_at_pole m f X Y e = cond-true _ _ _ (eq-eqb m 0 e)

-- m rows from the north pole
pub column_north : (n m f X Y : ℕ) → 0 < m → m + X + Y ≡ 2 * n → X ≤ n → Y ≤ n → f < 4 → polar_column m f X Y ≡ (f * m + (n - Y)) % (4 * m)
column_north n m f X Y pos e xn yn h =
    let q : f % 4 ≡ f = omega arith in
    let s : (X + m - Y) / 2 ≡ n - Y = omega arith in
    polar_column_off_pole m f X Y pos ∙ ap (λ t. (t * m + (X + m - Y) / 2) % (4 * m)) q ∙ ap (λ t. (f * m + t) % (4 * m)) s

-- m rows from the south pole
pub column_south : (n m f X Y : ℕ) → 0 < m → m ≡ X + Y → 8 ≤ f → f < 12 → polar_column m f X Y ≡ ((f - 8) * m + X) % (4 * m)
column_south n m f X Y pos e l h =
    let q : f % 4 ≡ f - 8 = omega arith in
    let s : (X + m - Y) / 2 ≡ X = omega arith in
    polar_column_off_pole m f X Y pos ∙ ap (λ t. (t * m + (X + m - Y) / 2) % (4 * m)) q ∙ ap (λ t. ((f - 8) * m + t) % (4 * m)) s
