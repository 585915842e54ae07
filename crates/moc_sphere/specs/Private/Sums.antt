-- The nine sums of a number of one list of three and a number of another list of three.
use Rattle.std.specs.Prelude.{ℕ, ◌+◌, ◌/◌, ◌%◌, List, slice_index}

-- the sum at a step, by the number of `across` and then by the number of `up`
abbrev pub sum_at : List ℕ → List ℕ → ℕ → ℕ
sum_at across up step = slice_index across (step / 3) + slice_index up (step % 3)
