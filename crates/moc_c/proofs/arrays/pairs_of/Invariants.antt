use Rattle.std.proofs.Common.{◌≡◌, take}
use Rattle.moc_c.specs.Buffers.{pairs_from}
use Rattle.moc_c.proofs.arrays.pairs_of.Given as goal

abbrev pub invariant-loop-range : goal.invariant-loop-range
invariant-loop-range l = l.pairs.items ≡ pairs_from (take l.range-index l.ranges)
