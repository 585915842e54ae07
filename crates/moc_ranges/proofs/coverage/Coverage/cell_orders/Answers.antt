use Rattle.std.proofs.Common.{subst}
use Rattle.moc_blocks.specs.RangeList.{NumberSet}
use Rattle.moc_ranges.specs.Private.CellRuns.{HasOrders}
use Rattle.moc_ranges.proofs.CellPieces.{orders_of_cells}
use Rattle.moc_ranges.proofs.coverage.Coverage.cell_orders.Goals as goal

pub returns-clause-each : goal.returns-clause-each
returns-clause-each c =
    let first = c.orders_with_cells.result.0 in
    let last = c.orders_with_cells.result.1 in
    orders_of_cells c.args.self.now first last (subst (λ (a : NumberSet). HasOrders a first last) c.ranges-2.ensures.set c.orders_with_cells.ensures)
