use Rattle.std.proofs.Common.{◌≡◌, ◌≤◌, ◌∷◌, [], length, get_or, subst, rules}
use Rattle.moc_sphere.specs.CellNumber.{cell_count}
use Rattle.moc_c.proofs.Failing.{cells_end, cells_stop, one_length}
use Rattle.moc_c.proofs.cells.convert.Goals as goal

pub returns-in_default-of-clause-call_result : goal.returns-in_default-of-clause-call_result
returns-in_default-of-clause-call_result c =
    let same : c.in-Some.order ≡ c.args.order = search rules in
    cells_stop c.args.order c.args.numbers.now (length c.args.out.now ∷ []) c.loop-at.at c.of-in_default-of.result (search rules) (one_length _ _ c.if-numbers-out.false) c.loop-at-test.true
    c.loop-at.invariant.0 (subst (λ k. cell_count k ≤ get_or c.args.numbers.now c.loop-at.at 0) same c.in_default-of.ensures) c.of-in_default-of.ensures

pub returns-clause-call_result : goal.returns-clause-call_result
returns-clause-call_result c =
    cells_end c.args.order c.args.numbers.now (length c.args.out.now ∷ []) c.loop-at.at c.success.result (search rules) (one_length _ _ c.if-numbers-out.false) c.loop-at-test.false c.loop-at.invariant.0 c.success.ensures
