use Rattle.std.proofs.Common.{◌+◌, length}
use Rattle.moc_operations.proofs.Merging.{IsUnionStep}
use Rattle.moc_operations.proofs.unions.union_lists.Given as goal

abbrev pub invariant-loop-built : goal.invariant-loop-built
invariant-loop-built l = IsUnionStep l.built l.xs l.ys l.fn.xs l.fn.ys

abbrev pub decreases-loop-built : goal.decreases-loop-built
decreases-loop-built l = length l.xs + length l.ys
