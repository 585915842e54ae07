use Rattle.std.proofs.Common.{arith, ap, length}
use Rattle.moc_ranges.specs.Private.CellRuns.{pieces_along}
use Rattle.moc_blocks.proofs.Blocking.{range_count_bounded}
use Rattle.moc_ranges.proofs.CellPieces.{ahead_count, pieces_count}
use Rattle.moc_ranges.proofs.cell_ranges.CellRangesIterator.size_hint.Goals as goal

pub overflow_mul-result : goal.overflow_mul-result
overflow_mul-result c = omega (arith, range_count_bounded c.self.inside.ranges c.self.invariant.0, ap (λ r. r.0) c.size_hint-ranges.ensures.exact)

pub overflow_add-result : goal.overflow_add-result
overflow_add-result c =
    omega (arith, range_count_bounded c.self.inside.ranges c.self.invariant.0, ap (λ r. r.0) c.size_hint-ranges.ensures.exact, c.self.invariant.2)

pub returns-clause-upper : goal.returns-clause-upper
returns-clause-upper c =
    let i = c.self.inside in
    let all = ahead_count i.buffer (pieces_along i.order i.ranges) i.returned i.count (omega (arith, c.self.invariant.1, c.self.invariant.2)) in
    (tt, omega (arith, ap length c.self.view_is, all, pieces_count i.order i.ranges, ap (λ r. r.0) c.size_hint-ranges.ensures.exact))
