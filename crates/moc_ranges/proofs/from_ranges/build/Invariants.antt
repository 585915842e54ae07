use Rattle.std.proofs.Common.{drop}
use Rattle.moc_blocks.specs.Private.Built.{ranges_of}
use Rattle.moc_ranges.proofs.Building.{IsLengthened}
use Rattle.moc_ranges.proofs.from_ranges.build.Given as goal

abbrev pub invariant-loop-pair : goal.invariant-loop-pair
invariant-loop-pair l = IsLengthened (ranges_of l.built) l.last (drop l.pair-index l.others) l.fn.pairs
