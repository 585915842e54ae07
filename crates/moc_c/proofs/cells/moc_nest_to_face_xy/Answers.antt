use Rattle.std.proofs.Common.{◌≤◌, ◌∷◌, [], length, get_or, rules}
use Rattle.moc_sphere.specs.CellNumber.{cell_count}
use Rattle.moc_c.proofs.Failing.{cells_end, cells_stop, three_lengths}
use Rattle.moc_c.proofs.cells.moc_nest_to_face_xy.Goals as goal

pub returns-in_default-new-clause-call_result : goal.returns-in_default-new-clause-call_result
returns-in_default-new-clause-call_result c =
    let fails : cell_count c.args.order ≤ get_or c.args.cells.now c.loop-at.at 0 = search rules in
    cells_stop c.args.order c.args.cells.now (length c.args.faces.now ∷ length c.args.xs.now ∷ length c.args.ys.now ∷ []) c.loop-at.at c.of-in_default-new.result (search rules) (three_lengths _ _ _ _ c.if-cells-faces.false c.if-cells-xs.false c.if-cells-ys.false)
    c.loop-at-test.true c.loop-at.invariant.0 fails c.of-in_default-new.ensures

pub returns-clause-call_result : goal.returns-clause-call_result
returns-clause-call_result c =
    cells_end c.args.order c.args.cells.now (length c.args.faces.now ∷ length c.args.xs.now ∷ length c.args.ys.now ∷ []) c.loop-at.at c.success.result (search rules) (three_lengths _ _ _ _ c.if-cells-faces.false c.if-cells-xs.false c.if-cells-ys.false)
    c.loop-at-test.false c.loop-at.invariant.0 c.success.ensures
