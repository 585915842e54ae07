use Rattle.std.proofs.Common.{◌+◌, ◌++◌, ◌∷◌, [], length}
use Rattle.moc_operations.specs.Private.Taking.{IsMerging}
use Rattle.moc_blocks.specs.Private.Built.{ranges_of}
use Rattle.moc_operations.proofs.unions.merge_ranges.Given as goal

abbrev pub invariant-loop-turn : goal.invariant-loop-turn
invariant-loop-turn l = IsMerging (ranges_of l.built) l.last (l.xs ++ l.first.tail) (l.ys ++ l.second.tail) (ranges_of l.initial.built ++ l.fn.last ∷ []) (l.first.ranges.now ++ l.first.tail) (l.second.ranges.now ++ l.second.tail)

abbrev pub decreases-loop-turn : goal.decreases-loop-turn
decreases-loop-turn l = length (l.xs ++ l.first.tail) + length (l.ys ++ l.second.tail)
