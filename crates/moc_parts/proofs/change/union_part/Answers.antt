use Rattle.std.proofs.Common.{◌-◌, ◌∙◌, arith}
use Rattle.std.specs.FinSet as set
use Rattle.moc_parts.proofs.Sums.{shared_less}
use Rattle.moc_parts.proofs.ChangedPixels.{added_pixel_count, unchanged_equal}
use Rattle.moc_parts.proofs.change.union_part.Goals as goal

pub overflow_sub-pixels : goal.overflow_sub-pixels
overflow_sub-pixels c = omega (arith, shared_less c.args.list.now c.args.more.now, c.count_common.ensures.size, c.count.ensures.size)

pub returns-then-pixels-eq0 : goal.returns-then-pixels-eq0
returns-then-pixels-eq0 c =
    unchanged_equal c.args.list.now (set.union c.args.list.now c.args.more.now) _
    ((λ i. c.count.ensures.size i - c.count_common.ensures.size i) ∙ added_pixel_count c.args.list.now c.args.more.now) c.if-pixels-eq0.true

pub returns : goal.returns
returns c = (c.in_ok-list.ensures.set, (λ i. c.count.ensures.size i - c.count_common.ensures.size i) ∙ added_pixel_count c.args.list.now c.args.more.now)
