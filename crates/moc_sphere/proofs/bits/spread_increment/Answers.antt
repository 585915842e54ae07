use Rattle.moc_sphere.proofs.SpreadSteps.{after_is}
use Rattle.moc_sphere.proofs.bits.spread_increment.Goals as goal

pub returns : goal.returns
returns c = λ x fits is. after_is c.args.s x fits is
