use Rattle.std.proofs.Common.{◌≡◌, take}
use Rattle.moc_blocks.specs.Private.Blocks.{width_of}
use Rattle.moc_blocks.proofs.block.width_of_ranges.Given as goal

abbrev pub invariant-loop-range : goal.invariant-loop-range
invariant-loop-range l = l.total ≡ width_of (take l.range-index l.ranges)
