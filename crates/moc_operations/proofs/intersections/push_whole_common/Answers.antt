use Rattle.moc_blocks.proofs.Basics.{from_ok}
use Rattle.moc_operations.proofs.MeetingOn.{intersects_after_common_move}
use Rattle.moc_operations.proofs.intersections.push_whole_common.Goals as goal

pub returns-clause-met : goal.returns-clause-met
returns-clause-met c =
    from_ok c.push_whole.result c.push_whole.ensures (intersects_after_common_move _ _ c.args.xs.now _ c.args.ys.now c.in-Some.ensures.0 c.in-Some.other c.requires.can c.in-Some.ensures.1)
