use Rattle.std.proofs.Common.{◌∙◌}
use Rattle.std.specs.FinSet as set
use Rattle.moc_parts.proofs.ChangedPixels.{common_pixels, unchanged_equal}
use Rattle.moc_parts.proofs.change.subtract_part.Goals as goal

pub returns-then-pixels-eq0 : goal.returns-then-pixels-eq0
returns-then-pixels-eq0 c =
    unchanged_equal c.args.list.now (set.difference c.args.list.now c.args.others.now) _
    (c.count_common-pixels.ensures.size ∙ common_pixels c.args.list.now c.args.others.now) c.if-pixels-eq0.true

pub returns : goal.returns
returns c = (c.in_ok-list.ensures.set, c.count_common-pixels.ensures.size ∙ common_pixels c.args.list.now c.args.others.now)
