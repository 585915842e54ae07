use Rattle.moc_sphere.proofs.SpreadSteps.{before_is}
use Rattle.moc_sphere.proofs.bits.spread_decrement.Goals as goal

pub returns : goal.returns
returns c = λ x pos fits is. before_is c.args.s x pos fits is
