use Rattle.std.proofs.Common.{◌≡◌, Bool, true, false, not, refl, sym, ap, ◌∙◌}
use Rattle.moc_parts.proofs.Flags.{none_set}
use Rattle.moc_parts.proofs.part.PartSet.is_empty.Goals as goal

false_if_not : (b : Bool) → not b ≡ true → b ≡ false
false_if_not true is = absurd (cc)
false_if_not false is = refl

pub returns : goal.returns
returns c =
    let both = none_set c.self.inside.flags c.self.invariant in (
      λ none. sym c.self.view_is ∙ both.0 (sym c.has_true.ensures ∙ false_if_not _ none),
      λ empty. ap not (c.has_true.ensures ∙ both.1 (c.self.view_is ∙ empty)),
    )
