use Rattle.std.proofs.Common.{◌≡◌, ◌∙◌, ap, false, inl, inr, not, sym, true}
use Rattle.moc_forms.specs.Combining.{are_blanks}
use Rattle.moc_conversion.proofs.Combinations.{notes_with_last, notes_without_last}
use Rattle.moc_conversion.proofs.combination.Combination.notes.Goals as goal

pub returns-then-is_none : goal.returns-then-is_none
returns-then-is_none c =
    c.notes_with_text.ensures ∙ notes_with_last c.args.self.now c.requires (inl (c.is_none.ensures ∙ ap not c.if-is_none.true))

pub returns-then-is_blank : goal.returns-then-is_blank
returns-then-is_blank c =
    let blank : are_blanks c.args.self.now.text.items ≡ true = ap are_blanks (sym c.deref.ensures.value) ∙ sym c.is_blank.ensures ∙ c.if-is_blank.true in
    c.notes_of_texts.ensures ∙ notes_without_last c.args.self.now c.requires (c.is_none.ensures ∙ ap not c.if-is_none.false) blank

pub returns : goal.returns
returns c =
    let written : are_blanks c.args.self.now.text.items ≡ false = ap are_blanks (sym c.deref.ensures.value) ∙ sym c.is_blank.ensures ∙ c.if-is_blank.false in
    c.notes_with_text-2.ensures ∙ notes_with_last c.args.self.now c.requires (inr written)
