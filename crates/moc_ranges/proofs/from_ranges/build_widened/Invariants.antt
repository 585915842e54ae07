use Rattle.std.proofs.Common.{map}
use Rattle.moc_blocks.specs.RangeList.{IsNormal}
use Rattle.moc_ranges.specs.Private.Widen.{widen}
use Rattle.moc_blocks.specs.Private.Built.{ranges_of}
use Rattle.moc_ranges.proofs.Building.{IsLengthened}
use Rattle.moc_ranges.proofs.from_ranges.build_widened.Given as goal

abbrev pub invariant-loop-from : goal.invariant-loop-from
invariant-loop-from l = record {
  continues : (goal.iterator-loop-from).can_next l.from-iterator × (goal.iterator-loop-from).is_finite l.from-iterator;
  normal : IsNormal l.from-iterator;
  joined : IsLengthened (ranges_of l.built) l.last (map (widen l.size) l.from-iterator) (map (widen l.size) l.fn.ranges);
}
