use Rattle.moc_sphere.proofs.FiveDigits.{looked_up, places_small}
use Rattle.moc_sphere.proofs.bits.five_digits.Goals as goal

pub returns-clause-places : goal.returns-clause-places
returns-clause-places c = looked_up c.args.s

pub returns-clause-bound : goal.returns-clause-bound
returns-clause-bound c = places_small c.args.s _ (looked_up c.args.s)
