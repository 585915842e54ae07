use Rattle.std.proofs.Common.{arith}
use Rattle.moc_sphere.proofs.FiveDigits.{fifteen_digits_suffice, together}
use Rattle.moc_sphere.proofs.bits.thirty_digits.Goals as goal

pub returns-then-high-eq0 : goal.returns-then-high-eq0
returns-then-high-eq0 c = fifteen_digits_suffice c.args.s _ (omega (arith, c.if-high-eq0.true)) c.fifteen_digits-low.ensures.places

pub returns : goal.returns
returns c =
    omega (arith, together c.args.s _ _ c.fifteen_digits-low.ensures.places c.fifteen_digits.ensures.places, c.fifteen_digits.ensures.bound)
