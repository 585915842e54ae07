use Rattle.std.proofs.Common.{◌≡◌, ◌+◌, ap, ◌∙◌}
use Rattle.std.specs.FinSet as set
use Rattle.moc_lists.specs.RangeList.{NumberSet}
use Rattle.moc_ranges.specs.Operations.{complement, part_of}
use Rattle.moc_parts.proofs.ChangedPixels.{changed_pixels-complement}
use Rattle.moc_parts.proofs.change.invert.Goals as goal

pub returns : goal.returns
returns c =
    let list : NumberSet = c.args.list.now in
    let new : c.in_ok-new.new ≡ part_of (complement list) c.args.part =
    c.in_ok-new.ensures.part ∙ ap (λ (a : NumberSet). part_of a c.get.result) c.in_ok-complement.ensures.set
    ∙ ap (part_of (complement list)) c.get.ensures.value in
    (new, (λ i. c.count.ensures.size i + (c.count-2.ensures.size ∙ ap set.len new) i) ∙ changed_pixels-complement list c.args.part)
