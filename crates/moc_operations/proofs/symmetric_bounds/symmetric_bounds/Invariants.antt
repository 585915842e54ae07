use Rattle.std.proofs.Common.{◌≡◌, ◌+◌, ◌-◌, ◌*◌, ◌≤◌, ◌++◌, List, ℕ, length, take, drop}
use Rattle.moc_operations.specs.Private.SymmetricBounds.{bounds_of, open_of, AreBounds}
use Rattle.moc_operations.proofs.symmetric_bounds.symmetric_bounds.Given as goal

abbrev pub invariant-loop-first : goal.invariant-loop-first
invariant-loop-first l = record {
  crossed : (kept tail_xs tail_ys : List ℕ) (whole_xs whole_ys : List (ℕ × ℕ))
      → AreBounds (kept ++ open_of l.fn.opened) (drop l.fn.passed.0 (bounds_of l.xs) ++ tail_xs) (drop l.fn.passed.1 (bounds_of l.ys) ++ tail_ys) whole_xs whole_ys
      → AreBounds (kept ++ take l.written l.out) (drop l.first (bounds_of l.xs) ++ tail_xs) (drop l.second (bounds_of l.ys) ++ tail_ys) whole_xs whole_ys;
  buffer : length l.out ≡ 512;
  first_within : l.first ≤ 2 * length l.xs;
  second_within : l.second ≤ 2 * length l.ys;
  even : (n : ℕ) × (l.first + l.second ≡ l.written + 2 * n);
}

abbrev pub decreases-loop-first : goal.decreases-loop-first
decreases-loop-first l = 2 * length l.xs + 2 * length l.ys - (l.first + l.second)
