use Rattle.std.proofs.Common.{◌≤◌, ◌+◌, length}
use Rattle.moc_blocks.specs.Private.Built.{ranges_of}
use Rattle.moc_operations.specs.Private.SymmetricBounds.{KeepsBounds}
use Rattle.moc_operations.proofs.symmetric_differences.push_shared_apart.Given as goal

abbrev pub invariant-loop-built : goal.invariant-loop-built
invariant-loop-built l = record {
  on : KeepsBounds (ranges_of l.fn.built) (ranges_of l.built) l.opened l.opened l.fn.xs l.xs l.fn.ys l.ys;
  fewer : length l.xs + length l.ys ≤ length l.fn.xs + length l.fn.ys;
}

abbrev pub decreases-loop-built : goal.decreases-loop-built
decreases-loop-built l = length l.ys
