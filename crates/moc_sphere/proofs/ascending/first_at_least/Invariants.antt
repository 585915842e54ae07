use Rattle.std.proofs.Common.{ℕ, ◌<◌, ◌≤◌, ◌+◌, length, get_or}
use Rattle.moc_sphere.proofs.ascending.first_at_least.Given as goal

abbrev pub invariant-loop-passed : goal.invariant-loop-passed
invariant-loop-passed l = (k : ℕ) → k < length l.numbers → length l.numbers ≤ k + l.passed → l.value ≤ get_or l.numbers k 0
