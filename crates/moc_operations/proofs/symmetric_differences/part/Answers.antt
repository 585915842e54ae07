use Rattle.std.proofs.Common.{arith}
use Rattle.moc_operations.proofs.Differing.{removed_from_both_apart, removed_from_both_touching, removed_from_both_overlapping}
use Rattle.moc_operations.proofs.symmetric_differences.part.Goals as goal

pub returns-then-x-y : goal.returns-then-x-y
returns-then-x-y c = removed_from_both_apart c.args.x c.args.y _ _ c.requires.normal c.requires.filled c.requires.other (omega (arith, c.requires.ends, c.requires.within)) c.requires.after c.if-x-y.true c.in_ok-push.ensures.appended

pub returns-then-x-y-2 : goal.returns-then-x-y-2
returns-then-x-y-2 c = removed_from_both_touching c.args.x c.args.y _ c.requires.normal c.requires.filled c.requires.ends c.requires.after c.if-x-y-2.true

pub returns : goal.returns
returns c = removed_from_both_overlapping c.args.x c.args.y c.min.result c.max.result _ _ c.requires.filled c.requires.ends (omega (arith, c.if-x-y.false, c.if-x-y-2.false)) c.min.ensures c.max.ensures c.in_ok-push_part.ensures.built c.in_ok-push_part.ensures.below c.in_ok-push_part.ensures.same
