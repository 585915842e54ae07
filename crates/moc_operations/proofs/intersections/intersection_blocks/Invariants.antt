use Rattle.std.proofs.Common.{◌+◌, [], length}
use Rattle.moc_blocks.specs.RangeList.{IsNormal}
use Rattle.moc_blocks.specs.Private.Built.{ranges_of}
use Rattle.moc_operations.specs.Private.Meeting.{Intersects}
use Rattle.moc_operations.proofs.intersections.intersection_blocks.Given as goal

abbrev pub invariant-loop-built : goal.invariant-loop-built
invariant-loop-built l = record {
  met : Intersects l.fn.xs l.xs l.fn.ys l.ys [] (ranges_of l.built);
  second_normal : IsNormal l.ys;
}

abbrev pub decreases-loop-built : goal.decreases-loop-built
decreases-loop-built l = length l.xs + length l.ys
