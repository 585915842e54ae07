use Rattle.std.proofs.Common.{◌≡◌, ◌-◌, ap, ◌∙◌, arith}
use Rattle.std.specs.FinSet as set
use Rattle.moc_ranges.specs.Cells.{degrade}
use Rattle.moc_parts.proofs.Counts.{degrade_more}
use Rattle.moc_parts.proofs.ChangedPixels.{added_pixels, unchanged_equal}
use Rattle.moc_parts.proofs.change.degrade.Goals as goal

pub overflow_sub-pixels : goal.overflow_sub-pixels
overflow_sub-pixels c =
    let wide : c.count.result ≡ set.len (degrade c.args.list.now c.args.order) = c.count.ensures.size ∙ ap set.len c.in_ok-new.ensures in
    omega (arith, degrade_more c.args.list.now c.args.order c.count-2.ensures.within, wide, c.count-2.ensures.size)

pub returns-then-pixels-eq0 : goal.returns-then-pixels-eq0
returns-then-pixels-eq0 c =
    unchanged_equal c.args.list.now (degrade c.args.list.now c.args.order) _
    ((λ i. (c.count.ensures.size ∙ ap set.len c.in_ok-new.ensures) i - c.count-2.ensures.size i) ∙ added_pixels c.args.list.now c.args.order c.count-2.ensures.within)
    c.if-pixels-eq0.true

pub returns : goal.returns
returns c = (c.in_ok-new.ensures, (λ i. (c.count.ensures.size ∙ ap set.len c.in_ok-new.ensures) i - c.count-2.ensures.size i) ∙ added_pixels c.args.list.now c.args.order c.count-2.ensures.within)
