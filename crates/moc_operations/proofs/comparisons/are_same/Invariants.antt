use Rattle.moc_operations.proofs.Walking.{AreSameFrom}
use Rattle.moc_operations.proofs.comparisons.are_same.Given as goal

abbrev pub invariant-loop-x : goal.invariant-loop-x
invariant-loop-x l = AreSameFrom l.xs l.ys l.fn.xs l.fn.ys
