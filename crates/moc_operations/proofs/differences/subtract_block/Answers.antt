use Rattle.std.proofs.Common.{◌∙◌, subst, sym, arith}
use Rattle.moc_blocks.specs.RangeList.{IsNormal}
use Rattle.moc_operations.specs.Private.Meeting.{gaps_before, gaps_of, end_of}
use Rattle.moc_operations.proofs.MeetingOn.{intersects_from_start, intersects_at_range, rest_is, rest_normal, rest_shorter}
use Rattle.moc_operations.proofs.GapsOf.{length_gaps, gaps_split, gaps_left}
use Rattle.moc_operations.proofs.differences.subtract_block.Goals as goal

pub push_all-requires : goal.push_all-requires
push_all-requires c =
    let first = c.in-Some.first in
    let second = c.in-Some-next_block.second in
    let low = c.args.low.now in
    record {
      normal = (intersects_at_range first.ranges.now (gaps_before low second.ranges.now) first.tail (gaps_of (end_of low second.ranges.now) second.tail) _ _ _ _ c.intersect_ranges-met.result.first c.intersect_ranges-met.result.second
          c.in-Some.ensures.0 (sym (gaps_split low second.ranges.now second.tail c.args.ys.now c.in-Some-next_block.ensures.0)) c.requires.can c.intersect_ranges-met.ensures.met).can.built;
    }

pub low_at-requires : goal.low_at-requires
low_at-requires c = omega (arith, c.intersect_ranges-met.ensures.second, length_gaps c.args.low.now c.in-Some-next_block.second.ranges.now)

pub resume-requires : goal.resume-requires
resume-requires c = rest_normal c.in-Some.first.ranges.now _ c.args.xs.now c.intersect_ranges-met.result.first c.in-Some.ensures.0 c.requires.can.first_normal

pub resume-requires-2 : goal.resume-requires-2
resume-requires-2 c = rest_normal c.in-Some-next_block.second.ranges.now _ c.args.ys.now c.intersect_ranges-met.result.second c.in-Some-next_block.ensures.0 c.requires.second_normal

pub returns-clause-met : goal.returns-clause-met
returns-clause-met c =
    let first = c.in-Some.first in
    let second = c.in-Some-next_block.second in
    let place = c.intersect_ranges-met.result.second in
    let is_ys = c.resume-2.ensures ∙ rest_is second.ranges.now second.tail place in
    intersects_from_start first.ranges.now (gaps_before c.args.low.now second.ranges.now) first.tail (gaps_of (end_of c.args.low.now second.ranges.now) second.tail) _ _ _ _ _ _ _ c.intersect_ranges-met.result.first place
    c.in-Some.ensures.0 (sym (gaps_split c.args.low.now second.ranges.now second.tail c.args.ys.now c.in-Some-next_block.ensures.0)) c.requires.can
    c.intersect_ranges-met.ensures.met (c.resume.ensures ∙ rest_is first.ranges.now _ c.intersect_ranges-met.result.first)
    ((λ i. gaps_of (c.low_at.ensures i) (is_ys i)) ∙ sym (gaps_left c.args.low.now second.ranges.now second.tail place)) c.in_ok-push_all.ensures.appended

pub returns-clause-second_normal : goal.returns-clause-second_normal
returns-clause-second_normal c = subst IsNormal (sym c.resume-2.ensures) (rest_normal c.in-Some-next_block.second.ranges.now _ c.args.ys.now c.intersect_ranges-met.result.second c.in-Some-next_block.ensures.0 c.requires.second_normal)

pub returns-clause-some : goal.returns-clause-some
returns-clause-some c =
    let first = c.in-Some.first in
    let second = c.in-Some-next_block.second in
    let m = c.intersect_ranges-met in
    let gaps = length_gaps c.args.low.now second.ranges.now in
    let step = m.ensures.some c.in-Some.ensures.1 (omega (arith, gaps, c.in-Some-next_block.ensures.1)) (omega arith) in
    omega (
      arith,
      step,
      rest_shorter first.ranges.now first.tail c.args.xs.now _ m.result.first m.ensures.first c.in-Some.ensures.0 c.resume.ensures,
      rest_shorter second.ranges.now second.tail c.args.ys.now _ m.result.second (omega (arith, m.ensures.second, gaps)) c.in-Some-next_block.ensures.0 c.resume-2.ensures,
    )
