-- The line of the position, then that of what the text must have there, then that of the hint if there is one.
use Rattle.std.proofs.Common.{◌∙◌, ◌++◌, ℕ, List, [], Option, ap, refl}
use Rattle.std.specs.Option.{option_map_or}
use Rattle.std.specs.Prelude.{option_map, string_bytes}
use Rattle.moc_forms.specs.Expectations.{expected_text}
use Rattle.moc_forms.specs.Finding.{hint_text}
use Rattle.moc_forms.specs.Places.{position_line}
use Rattle.moc_forms.specs.declared.diagnostic.Diagnostic.{Diagnostic}
use Rattle.moc_conversion.proofs.Sending.{writes_all, writes_as, writes_first, writes_next, writes_no_more, writes_some}
use Rattle.moc_conversion.proofs.reporting.write_diagnostic.Goals as goal

-- the three parts
abbrev position_part : Option ℕ → Diagnostic → List ℕ
position_part number d = position_line number d.place (option_map string_bytes d.quote)

abbrev expected_part : Diagnostic → List ℕ
expected_part d = expected_text d.error d.order

abbrev hint_part : Diagnostic → List ℕ
hint_part d = option_map_or hint_text d.hint []

pub returns-in_err-write_position : goal.returns-in_err-write_position
returns-in_err-write_position g c =
    let d = c.args.diagnostic.now in
    writes_first _ _ (position_part c.args.number d) (expected_part d ++ hint_part d) _ _ _ _
    (writes_as _ _ _ _ _ _ _ (ap (λ (q : Option (List ℕ)). position_line c.args.number d.place q) c.as_deref.ensures.value) c.in_err-write_position.ensures) refl c.from_residual.ensures.0

pub returns-in_err-write_expected : goal.returns-in_err-write_expected
returns-in_err-write_expected g c =
    let d = c.args.diagnostic.now in
    writes_next _ _ (position_part c.args.number d) (expected_part d ++ hint_part d) _ _ _ _ _
    (writes_as _ _ _ _ _ _ _ (ap (λ (q : Option (List ℕ)). position_line c.args.number d.place q) c.as_deref.ensures.value) c.in_ok-write_position.ensures)
    (writes_first _ _ (expected_part d) (hint_part d) _ _ _ _ c.in_err-write_expected.ensures refl c.from_residual-in_err-write_expected.ensures.0)

pub returns-in-None : goal.returns-in-None
returns-in-None g c =
    let d = c.args.diagnostic.now in
    writes_next _ _ (position_part c.args.number d) (expected_part d ++ hint_part d) _ _ _ _ _
    (writes_as _ _ _ _ _ _ _ (ap (λ (q : Option (List ℕ)). position_line c.args.number d.place q) c.as_deref.ensures.value) c.in_ok-write_position.ensures)
    (writes_no_more _ _ hint_text (expected_part d) d.hint _ _ _ c.in_ok-write_expected.ensures c.in-None.is)

pub returns-in-Some : goal.returns-in-Some
returns-in-Some g c =
    let d = c.args.diagnostic.now in
    writes_next _ _ (position_part c.args.number d) (expected_part d ++ hint_part d) _ _ _ _ _
    (writes_as _ _ _ _ _ _ _ (ap (λ (q : Option (List ℕ)). position_line c.args.number d.place q) c.as_deref.ensures.value) c.in_ok-write_position.ensures)
    (writes_some _ _ hint_text (expected_part d) d.hint _ _ _ c.in_ok-write_expected.ensures c.in-Some.content _ _ c.in-Some.is
    (writes_as _ _ _ _ _ _ _ (c.as_bytes.ensures.value ∙ c.hint_line.ensures) (writes_all _ _ _ _ _ _ _ c.write_all.result c.write_all.ensures.written c.write_all.ensures.sends c.write_all.ensures.writes)))
