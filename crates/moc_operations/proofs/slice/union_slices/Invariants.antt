use Rattle.std.proofs.Common.{◌+◌, ◌∷◌, length}
use Rattle.moc_operations.proofs.Slices.{IsUnionOfSlices}
use Rattle.moc_operations.proofs.slice.union_slices.Given as goal

abbrev pub invariant-loop-x : goal.invariant-loop-x
invariant-loop-x l = IsUnionOfSlices l.kept.items (l.x ∷ l.rest_xs) (l.y ∷ l.rest_ys) l.fn.xs l.fn.ys

abbrev pub decreases-loop-x : goal.decreases-loop-x
decreases-loop-x l = length l.rest_xs + length l.rest_ys
