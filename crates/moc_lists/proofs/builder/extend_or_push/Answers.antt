use Rattle.std.proofs.Common.{arith}
use Rattle.moc_blocks.proofs.Building.{open_longer, open_longer-same, last_open_nonempty, open_within, open_after, open_next}
use Rattle.moc_blocks.proofs.Building.{open_next-same}
use Rattle.moc_lists.proofs.builder.extend_or_push.Goals as goal

pub returns-then-range-last-clause-opened : goal.returns-then-range-last-clause-opened
returns-then-range-last-clause-opened c = open_longer _ c.args.last c.args.range.1 _ c.requires.opened c.requires.within c.max.ensures

pub returns-then-range-last-clause-same : goal.returns-then-range-last-clause-same
returns-then-range-last-clause-same c = λ q. open_longer-same _ c.args.last c.args.range _ q c.requires.opened c.max.ensures c.requires.later (omega arith) c.requires.filled

pub push-requires-clause-filled : goal.push-requires-clause-filled
push-requires-clause-filled c = last_open_nonempty _ c.args.last c.requires.opened

pub push-requires-clause-within : goal.push-requires-clause-within
push-requires-clause-within c = open_within _ c.args.last c.requires.opened

pub push-requires-clause-after : goal.push-requires-clause-after
push-requires-clause-after c = open_after _ c.args.last c.requires.opened

pub returns-clause-opened : goal.returns-clause-opened
returns-clause-opened c = open_next _ _ c.args.last c.args.range c.requires.opened c.in_ok-push.ensures.built c.in_ok-push.ensures.appended (omega arith) c.requires.filled c.requires.within

pub returns-clause-same : goal.returns-clause-same
returns-clause-same c = λ q. open_next-same _ _ c.args.last c.args.range q c.in_ok-push.ensures.appended
