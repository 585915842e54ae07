use Rattle.std.proofs.Common.{◌/◌, arith}
use Rattle.moc_operations.proofs.Bounds.{bound_even, bound_odd}
use Rattle.moc_operations.proofs.symmetric_bounds.bound_at.Goals as goal

pub returns-then-place-eq0 : goal.returns-then-place-eq0
returns-then-place-eq0 c = bound_even c.args.ranges.now (c.args.place / 2) c.args.place (0, 0) (omega (arith, c.requires)) (omega (arith, c.if-place-eq0.true))

pub returns-else-place-eq0 : goal.returns-else-place-eq0
returns-else-place-eq0 c = bound_odd c.args.ranges.now (c.args.place / 2) c.args.place (0, 0) (omega (arith, c.requires)) (omega (arith, c.if-place-eq0.false))
