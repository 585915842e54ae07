use Rattle.std.proofs.Common.{arith}
use Rattle.moc_sphere.proofs.FiveDigits.{fifteen_together}
use Rattle.moc_sphere.proofs.Places.{x_of-lt, y_of-lt}
use Rattle.moc_sphere.proofs.bits.fifteen_digits.Goals as goal

pub returns-clause-places : goal.returns-clause-places
returns-clause-places c =
    omega (arith, fifteen_together c.args.s _ _ _ c.five_digits.ensures.places c.five_digits-2.ensures.places c.five_digits-3.ensures.places)

pub returns-clause-bound : goal.returns-clause-bound
returns-clause-bound c =
    omega (arith, returns-clause-places c, x_of-lt 15 c.args.s, y_of-lt 15 c.args.s)
