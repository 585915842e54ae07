use Rattle.std.proofs.Common.{◌+◌, ◌∷◌, length}
use Rattle.moc_operations.proofs.Slices.{IsDifferenceOfSlices}
use Rattle.moc_operations.proofs.slice.difference_slices.Given as goal

abbrev pub invariant-loop-rest_ys : goal.invariant-loop-rest_ys
invariant-loop-rest_ys l = IsDifferenceOfSlices l.kept.items (l.x ∷ l.rest_xs) l.rest_ys l.fn.xs l.fn.ys

abbrev pub decreases-loop-rest_ys : goal.decreases-loop-rest_ys
decreases-loop-rest_ys l = length l.rest_xs + length l.rest_ys
