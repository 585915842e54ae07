use Rattle.std.proofs.Common.{sym, ap, ◌∙◌}
use Rattle.moc_parts.specs.Private.Changes.{changed_part}
use Rattle.moc_parts.proofs.Counts.{no_pixels_unless_met}
use Rattle.moc_parts.proofs.PartTheorem.{union_with_empty_part, difference_with_empty_part}
use Rattle.moc_parts.proofs.change.Change.parts.Goals as goal

pub returns-in-Union : goal.returns-in-Union
returns-in-Union c b l out part lies =
    ap (λ change. changed_part change part b) c.in-Union.is
    ∙ union_with_empty_part part c.in-Union.s.now b (no_pixels_unless_met c.in-Union.s.now b (sym (c.parts_met.ensures.parts b l) ∙ out))

pub returns-in-Subtract : goal.returns-in-Subtract
returns-in-Subtract c b l out part lies =
    ap (λ change. changed_part change part b) c.in-Subtract.is
    ∙ difference_with_empty_part part c.in-Subtract.s.now b lies (no_pixels_unless_met c.in-Subtract.s.now b (sym (c.parts_met-in-Subtract.ensures.parts b l) ∙ out))
