use Rattle.std.proofs.Common.{sym, ap, ◌∙◌}
use Rattle.std.specs.FinSet as set
use Rattle.moc_ranges.specs.Operations.{part_of, pixels}
use Rattle.moc_parts.proofs.Sums.{part-covered}
use Rattle.moc_parts.proofs.draft.Draft.intersection_in.Goals as goal

pub returns-in_ok-try_copy-clause-common : goal.returns-in_ok-try_copy-clause-common
returns-in_ok-try_copy-clause-common c =
    c.in_ok-try_copy.ensures.same ∙ c.part-list.ensures.list ∙ sym (part-covered c.args.self.now.set c.args.other.now c.args.part c.part-list.ensures.within (ap (λ b. set.is_subset (part_of pixels b) c.args.other.now) (sym c.get.ensures.value) ∙ sym c.covers_base_pixel.ensures ∙ c.if-covers_base_pixel.true))
