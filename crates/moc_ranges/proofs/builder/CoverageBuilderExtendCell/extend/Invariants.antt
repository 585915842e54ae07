use Rattle.std.proofs.Common.{◌≡◌}
use Rattle.std.specs.FinSet as set
use Rattle.moc_ranges.specs.Cells.{pixels_of}
use Rattle.moc_ranges.proofs.builder.CoverageBuilderExtendCell.extend.Given as goal

abbrev pub invariant-loop-cell : goal.invariant-loop-cell
invariant-loop-cell g l = l.self ≡ set.union l.fn.self (pixels_of l.yielded)
