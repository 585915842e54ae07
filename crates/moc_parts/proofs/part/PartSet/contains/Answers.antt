use Rattle.std.proofs.Common.{◌<◌, false, get_or, sym, subst, ap, ◌∙◌}
use Rattle.std.specs.FinSet as set
use Rattle.moc_parts.specs.Private.PartSets.{contains-flagged_below}
use Rattle.moc_parts.proofs.part.PartSet.contains.Goals as goal

pub returns : goal.returns
returns c =
    let flags = c.self.inside.flags in
    ap (λ b. get_or flags b false) c.index.ensures.value
    ∙ sym (contains-flagged_below flags c.args.part (subst (λ b. b < 12) c.index.ensures.value c.index.ensures.in_range))
    ∙ ap (λ s. set.contains s c.args.part) c.self.view_is
