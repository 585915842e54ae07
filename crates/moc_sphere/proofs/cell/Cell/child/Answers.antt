use Rattle.std.proofs.Common.{◌≡◌, ◌≤◌, ◌+◌, arith}
use Rattle.moc_sphere.proofs.CellFacts.{child_fits, index_small}
use Rattle.moc_sphere.proofs.cell.Cell.child.Goals as goal

pub overflow_mul-result : goal.overflow_mul-result
overflow_mul-result c = let small : c.self.inside.order ≤ 29 = omega arith in omega (arith, index_small c.self.inside.order c.self.inside.index small c.self.invariant)

pub overflow_add-result : goal.overflow_add-result
overflow_add-result c = let small : c.self.inside.order ≤ 29 = omega arith in omega (arith, index_small c.self.inside.order c.self.inside.index small c.self.invariant)

pub invariant_of-result : goal.invariant_of-result
invariant_of-result c =
    let next : c.of-order.result ≡ c.self.inside.order + 1 = omega arith in
    child_fits c.self.inside.order c.of-order.result c.self.inside.index c.args.digit next c.self.invariant c.requires.digit
