-- Lemmas on cells, for proofs.
use Rattle.std.specs.Prelude.{◌≡◌, ℕ, ◌+◌, ◌-◌, ◌*◌, ◌^◌, ◌<◌, ◌≤◌}
use Rattle.std.proofs.Common.{arith, ap, sym, ◌∙◌, lit<, mul_assoc}
use Rattle.std.proofs.lemmas.Nat.{pow-add}
use Rattle.std.proofs.Math.Nat.{one-le-pow}
use Rattle.moc_sphere.specs.CellNumber.{cell_count, cell_size}

-- a cell has at least one pixel
pub cell_size-positive : (k : ℕ) → 0 < cell_size k
unfolding cell_size
cell_size-positive k = one-le-pow (29 - k) 4 (lit< tt)

-- the cells of an order have all pixels
pub cell_size-fills : (k : ℕ) → k ≤ 29 → cell_count k * cell_size k ≡ cell_count 29
unfolding cell_size
cell_size-fills k le =
    let split : 4 ^ (k + (29 - k)) ≡ 4 ^ k * 4 ^ (29 - k) = pow-add 4 k (29 - k) in
    let sum : k + (29 - k) ≡ 29 = omega arith in
    let all : 4 ^ k * 4 ^ (29 - k) ≡ 4 ^ 29 = sym split ∙ ap (λ n. 4 ^ n) sum in
    mul_assoc 12 (4 ^ k) (4 ^ (29 - k)) ∙ ap (λ n. 12 * n) all
