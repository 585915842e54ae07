use Rattle.std.proofs.Common.{arith}
use Rattle.moc_operations.proofs.Slices.{appended_if_separate, appended_or_merged}
use Rattle.moc_operations.proofs.slice.append_or_merge.Goals as goal

pub returns-then-x-y : goal.returns-then-x-y
returns-then-x-y c = appended_if_separate c.args.x c.args.y _ _ c.requires.normal c.requires.filled c.requires.other (omega (arith, c.requires.ends, c.requires.within)) c.requires.after c.if-x-y.true c.in_ok-push.ensures.items

pub returns : goal.returns
returns c = appended_or_merged c.args.x c.args.y c.min.result _ c.requires.normal c.requires.filled c.requires.ends c.requires.after (omega arith) c.min.ensures
