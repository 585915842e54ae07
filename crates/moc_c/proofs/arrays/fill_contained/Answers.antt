use Rattle.std.proofs.Common.{rules}
use Rattle.moc_c.proofs.Passing.{rest_from_start}
use Rattle.moc_c.proofs.arrays.fill_contained.Goals as goal

pub loop-at-init : goal.loop-at-init
loop-at-init c =
    (search rules, search rules, rest_from_start c.args.set.now c.ranges-rest.result c.ranges-rest.ensures.normal c.ranges-rest.ensures.set)
