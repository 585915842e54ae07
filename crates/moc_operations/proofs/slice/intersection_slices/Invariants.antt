use Rattle.std.proofs.Common.{◌+◌, length}
use Rattle.moc_operations.proofs.Slices.{IsIntersectionOfSlices}
use Rattle.moc_operations.proofs.slice.intersection_slices.Given as goal

abbrev pub invariant-loop-rest_xs : goal.invariant-loop-rest_xs
invariant-loop-rest_xs l = IsIntersectionOfSlices l.kept.items l.rest_xs l.rest_ys l.fn.xs l.fn.ys

abbrev pub decreases-loop-rest_xs : goal.decreases-loop-rest_xs
decreases-loop-rest_xs l = length l.rest_xs + length l.rest_ys
