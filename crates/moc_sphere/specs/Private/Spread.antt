-- Bits that are spread to digits in base 4.
use Rattle.std.specs.Prelude.{ℕ, zero, suc, ◌+◌, ◌*◌, ◌/◌, ◌%◌}

-- the number whose base-4 digits are the last k bits of x
unfoldable pub spread_of : ℕ → ℕ → ℕ
spread_of zero x = 0
spread_of (suc k) x = 4 * spread_of k (x / 2) + x % 2
