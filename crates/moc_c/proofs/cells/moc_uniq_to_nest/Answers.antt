use Rattle.std.proofs.Common.{◌≤◌, ◌<◌, ◌^◌, ◌∷◌, [], length, get_or, rules}
use Rattle.moc_c.proofs.Failing.{two_lengths, uniqs_end, uniqs_stop}
use Rattle.moc_c.proofs.cells.moc_uniq_to_nest.Goals as goal

pub returns-in_default-clause-call_result : goal.returns-in_default-clause-call_result
returns-in_default-clause-call_result c =
    let fails : (4 ≤ get_or c.args.uniqs.now c.loop-at.at 0) × (get_or c.args.uniqs.now c.loop-at.at 0 < 2 ^ 62) → ⊥ = search rules in
    uniqs_stop c.args.uniqs.now (length c.args.orders.now ∷ length c.args.cells.now ∷ []) c.loop-at.at c.of-in_default.result
    (two_lengths _ _ _ c.if-uniqs-orders.false c.if-uniqs-cells.false) c.loop-at-test.true c.loop-at.invariant.0 fails c.of-in_default.ensures

pub returns-clause-call_result : goal.returns-clause-call_result
returns-clause-call_result c =
    uniqs_end c.args.uniqs.now (length c.args.orders.now ∷ length c.args.cells.now ∷ []) c.loop-at.at c.success.result
    (two_lengths _ _ _ c.if-uniqs-orders.false c.if-uniqs-cells.false) c.loop-at-test.false c.loop-at.invariant.0 c.success.ensures
