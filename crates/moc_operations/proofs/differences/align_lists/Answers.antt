use Rattle.std.proofs.Common.{arith}
use Rattle.moc_blocks.proofs.Merging.{EndsBelow-more}
use Rattle.moc_blocks.proofs.Basics.{from_ok}
use Rattle.moc_operations.proofs.Shortening.{common_move_shortens}
use Rattle.moc_operations.proofs.MeetingOn.{left_normal, left_shorter, meets_more, intersects_after_common_move}
use Rattle.moc_operations.proofs.GapsOf.{first_gap, gap_rest, intersects_gaps_after_skip, next_of_gaps, ascending_gaps_low}
use Rattle.moc_operations.proofs.differences.align_lists.Goals as goal

pub push_whole-requires-clause-ascending : goal.push_whole-requires-clause-ascending
push_whole-requires-clause-ascending c =
    let m = intersects_gaps_after_skip _ c.args.xs.now c.args.ys.now _ c.args.low c.next_from.result c.requires.can c.requires.second_normal c.next_from.ensures c.skip_through.ensures in
    omega (arith, ascending_gaps_low c.args.low _ m.can.second_ascending, c.next_from-next.ensures)

pub push_whole-requires-clause-after : goal.push_whole-requires-clause-after
push_whole-requires-clause-after c =
    let m = intersects_gaps_after_skip _ c.args.xs.now c.args.ys.now _ c.args.low c.next_from.result c.requires.can c.requires.second_normal c.next_from.ensures c.skip_through.ensures in
    EndsBelow-more _ _ _ m.can.below (omega (arith, next_of_gaps c.args.low c.skip_through.new.ys))

pub returns-clause-met : goal.returns-clause-met
returns-clause-met c =
    let m = intersects_gaps_after_skip _ c.args.xs.now c.args.ys.now _ c.args.low c.next_from.result c.requires.can c.requires.second_normal c.next_from.ensures c.skip_through.ensures in
    from_ok c.push_whole.result c.push_whole.ensures (λ taken. meets_more _ _ _ _ _ _ _ _ _ m (intersects_after_common_move _ _ c.args.xs.now _ _ (gap_rest c.skip_through.new.ys) (c.args.low, c.next_from-next.result) m.can (first_gap c.args.low c.next_from-next.result c.skip_through.new.ys c.next_from-next.ensures) taken))

pub returns-clause-second_normal : goal.returns-clause-second_normal
returns-clause-second_normal c =
    from_ok c.push_whole.result c.push_whole.ensures (λ taken. left_normal _ _ _ c.requires.second_normal c.skip_through.ensures)

pub returns-clause-fewer : goal.returns-clause-fewer
returns-clause-fewer c = from_ok c.push_whole.result c.push_whole.ensures (λ taken.
    omega (arith, left_shorter _ _ _ c.skip_through.ensures, common_move_shortens taken))
