-- Cells and their pixels within 64 bits.
use Rattle.std.proofs.Common.{ℕ, ◌*◌, ◌^◌, ◌<◌, ◌≤◌, arith, lit<}
use Rattle.std.proofs.Math.Nat.{pow-le-pow_right, mul-le-mul_right}
use Rattle.moc_sphere.specs.CellNumber.{cell_count, cell_size}
use Rattle.moc_sphere.specs.Lemmas.{cell_size-fills}
use Rattle.moc_lists.specs.RangeList.{pixel_count}

four-pow-le : (k : ℕ) → k ≤ 29 → 4 ^ k ≤ 4 ^ 29
four-pow-le k h = pow-le-pow_right (lit< tt) h

pub cells_fit : (k : ℕ) → k ≤ 29 → cell_count k < 2 ^ 64
cells_fit k h = omega (arith, four-pow-le k h)

-- the first pixels of v cells are at most all pixels
pub span_fits : (k v : ℕ) → k ≤ 29 → v ≤ cell_count k → v * cell_size k ≤ pixel_count
span_fits k v h le =
    let m : v * cell_size k ≤ cell_count k * cell_size k = mul-le-mul_right (cell_size k) le in
    omega (arith, m, cell_size-fills k h)
