use Rattle.std.proofs.Common.{◌-◌, ◌∙◌, arith}
use Rattle.std.specs.FinSet as set
use Rattle.moc_parts.proofs.Sums.{common_count_at_most}
use Rattle.moc_parts.proofs.ChangedPixels.{dropped_pixels, unchanged_equal}
use Rattle.moc_parts.proofs.change.intersect_part.Goals as goal

pub overflow_sub-pixels : goal.overflow_sub-pixels
overflow_sub-pixels c = omega (arith, common_count_at_most c.args.list.now c.args.others.now, c.count_common.ensures.size, c.count.ensures.size)

pub returns-then-pixels-eq0 : goal.returns-then-pixels-eq0
returns-then-pixels-eq0 c =
    unchanged_equal c.args.list.now (set.intersection c.args.list.now c.args.others.now) _
    ((λ i. c.count.ensures.size i - c.count_common.ensures.size i) ∙ dropped_pixels c.args.list.now c.args.others.now) c.if-pixels-eq0.true

pub returns : goal.returns
returns c = (c.in_ok-list.ensures.set, (λ i. c.count.ensures.size i - c.count_common.ensures.size i) ∙ dropped_pixels c.args.list.now c.args.others.now)
