-- Rows and columns in half steps.
use Rattle.std.proofs.Common.{ℕ, ◌*◌, ◌-◌, ◌^◌, ◌<◌, ◌≤◌, arith, lit<}
use Rattle.std.proofs.Math.Nat.{pow-le-pow_right}

-- a row or column of an order is below those of order 29
pub of_order : (m k n : ℕ) → k ≤ 29 → n < m * 2 ^ k → n < m * 2 ^ 29
of_order m k n le lt =
    let more : 2 ^ k ≤ 2 ^ 29 = pow-le-pow_right (lit< tt) le in
    grind arith

-- half a diamond's width
pub half_at_most : (k : ℕ) → 2 ^ (7 - k) ≤ 128
half_at_most k = let le : 7 - k ≤ 7 = omega arith in pow-le-pow_right (lit< tt) le
