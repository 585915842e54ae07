use Rattle.std.proofs.Common.{◌∙◌, subst, sym}
use Rattle.moc_blocks.specs.RangeList.{IsNormal}
use Rattle.moc_operations.proofs.MeetingOn.{intersects_from_start, rest_is, rest_normal}
use Rattle.moc_operations.proofs.intersections.intersect_block.Goals as goal

pub resume-requires-2 : goal.resume-requires-2
resume-requires-2 c = rest_normal c.in-Some-next_block.second.ranges.now _ c.args.ys.now c.intersect_ranges-met.result.second c.in-Some-next_block.ensures.0 c.requires.second_normal

pub returns-clause-met : goal.returns-clause-met
returns-clause-met c =
    let first = c.in-Some.first in
    let second = c.in-Some-next_block.second in
    intersects_from_start first.ranges.now second.ranges.now first.tail second.tail _ _ _ _ _ _ _ c.intersect_ranges-met.result.first c.intersect_ranges-met.result.second c.in-Some.ensures.0 c.in-Some-next_block.ensures.0 c.requires.can
    c.intersect_ranges-met.ensures.met (c.resume.ensures ∙ rest_is first.ranges.now _ c.intersect_ranges-met.result.first) (c.resume-2.ensures ∙ rest_is second.ranges.now _ c.intersect_ranges-met.result.second) c.in_ok-push_all.ensures.appended

pub returns-clause-second_normal : goal.returns-clause-second_normal
returns-clause-second_normal c = subst IsNormal (sym c.resume-2.ensures) (rest_normal c.in-Some-next_block.second.ranges.now _ c.args.ys.now c.intersect_ranges-met.result.second c.in-Some-next_block.ensures.0 c.requires.second_normal)
