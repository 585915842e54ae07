use Rattle.std.proofs.Common.{◌++◌, ◌-◌, sym, subst, ap, ◌∙◌, arith, add-one}
use Rattle.std.specs.List.{AllByRecursion}
use Rattle.moc_sphere.specs.CellNumber.{IsCell}
use Rattle.moc_blocks.specs.RangeList.{NumberSet}
use Rattle.moc_ranges.specs.Private.CellRuns.{HasOrders, cells_at}
use Rattle.moc_ranges.proofs.CellOrders.{cells_step, cells_before, cells_after}
use Rattle.moc_ranges.proofs.CellPieces.{cells_of_order, order_cells}
use Rattle.moc_ranges.proofs.coverage.Coverage.cells.Goals as goal

pub loop-level-init : goal.loop-level-init
loop-level-init c =
    let first = c.orders_with_cells-first.result.0 in
    let orders = subst (λ (a : NumberSet). HasOrders a first c.orders_with_cells-first.result.1) c.ranges-2.ensures.set c.orders_with_cells-first.ensures in
    record {
      found = c.in_ok-cells.ensures.items ∙ sym (cells_before c.args.self.now first _ first orders (omega arith) orders.first_in_range);
      within = omega arith;
    }

pub push_runs-requires : goal.push_runs-requires
push_runs-requires c = subst (AllByRecursion IsCell) (sym c.cell_ranges.ensures.cells) (order_cells c.args.self.now c.of-order.result)

pub loop-level-preserved : goal.loop-level-preserved
loop-level-preserved c =
    let a = c.args.self.now in
    let k = c.loop-level.level in
    record {
      found = c.in_ok-push_runs.ensures
          ∙ (λ i. c.loop-level.invariant.found i ++ (c.cell_ranges.ensures.cells ∙ sym (cells_of_order a c.of-order.result (omega arith)) ∙ ap (cells_at a) c.of-order.ensures) i)
          ∙ sym (rw add-one (cells_step a k));
      within = omega arith;
    }

pub returns-clause-cells : goal.returns-clause-cells
returns-clause-cells c =
    let first = c.orders_with_cells-first.result.0 in
    let end = c.orders_with_cells-first.result.1 in
    let k = c.loop-level.level in
    let orders = subst (λ (a : NumberSet). HasOrders a first end) c.ranges-2.ensures.set c.orders_with_cells-first.ensures in
    c.loop-level.invariant.found
    ∙ cells_after c.args.self.now first end k (30 - k) orders c.loop-level-test.false (omega (arith, orders.first_in_range, orders.last_in_range))

pub returns-clause-within : goal.returns-clause-within
returns-clause-within c = c.ranges-2.ensures.within
