use Rattle.moc_blocks.specs.Private.Built.{ranges_of}
use Rattle.moc_operations.proofs.intersections.intersect_next.Goals as goal

pub returns-then-skip_leading-clause-met : goal.returns-then-skip_leading-clause-met
returns-then-skip_leading-clause-met c = c.skip_leading.ensures.met (ranges_of c.args.built.now) c.requires.can
