use Rattle.std.proofs.Common.{◌<◌, true, set as set_at, subst, ap, ◌∙◌}
use Rattle.std.specs.FinSet as set
use Rattle.moc_parts.specs.Private.PartSets.{parts_of_flags}
use Rattle.moc_parts.proofs.Flags.{parts_of_flags-set}
use Rattle.moc_parts.proofs.part.PartSet.insert.Goals as goal

pub returns : goal.returns
returns c =
    let flags = c.self.inside.flags in
    ap (λ b. parts_of_flags (set_at flags b true)) c.index.ensures.value
    ∙ parts_of_flags-set flags c.args.part (subst (λ b. b < 12) c.index.ensures.value c.index.ensures.in_range) c.self.invariant
    ∙ ap (λ s. set.insert s c.args.part) c.self.view_is
