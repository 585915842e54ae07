use Rattle.moc_sphere.proofs.SpreadSteps.{spread_mask}
use Rattle.moc_sphere.proofs.bits.even_bits.Goals as goal

pub returns : goal.returns
returns c = spread_mask c.args.s
