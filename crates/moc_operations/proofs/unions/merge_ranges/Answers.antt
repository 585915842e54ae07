use Rattle.moc_operations.proofs.Turning.{joining_step}
use Rattle.moc_operations.proofs.unions.merge_ranges.Goals as goal

pub loop-turn-preserved : goal.loop-turn-preserved
loop-turn-preserved c =
    let turn = c.in-Some.ensures c.args.first.now.tail c.args.second.now.tail c.loop-turn.invariant.first_normal c.loop-turn.invariant.second_normal in
    joining_step _ _ _ _ _ _ _ _ _ c.loop-turn.last c.in_ok-last.last c.in-Some.turn.range c.loop-turn.invariant turn c.in_ok-last.ensures.opened c.in_ok-last.ensures.later c.in_ok-last.ensures.same
