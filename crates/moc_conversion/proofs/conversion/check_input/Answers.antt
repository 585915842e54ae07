use Rattle.std.proofs.Common.{◌≡◌, ◌⊎◌, ◌∙◌, ℕ, List, None, ap, subst}
use Rattle.moc_forms.specs.Combining.{TextRepresents}
use Rattle.moc_forms.specs.Finding.{format_for}
use Rattle.moc_conversion.specs.Conversion.{ReportsError, input_limit}
use Rattle.moc_conversion.specs.Notes.{check_notes}
use Rattle.moc_conversion.specs.declared.error.InputError.TheVariants.{Memory}
use Rattle.moc_conversion.proofs.Checks.{all_of, error_passed_to_result, of_input}
use Rattle.moc_conversion.proofs.conversion.check_input.Goals as goal

pub returns-clause-represents : goal.returns-clause-represents
returns-clause-represents g c =
    let parsed = c.in_ok-parse_text.field-0 in (
      parsed,
      all_of input_limit (λ bytes. TextRepresents c.args.choice bytes parsed) _ _ c.in_ok-text.text.items c.in_ok-text.ensures.whole
          (subst (λ (bytes : List ℕ). TextRepresents c.args.choice bytes parsed) c.deref.ensures.value c.in_ok-parse_text.ensures.represents),
    )

pub returns-clause-notes : goal.returns-clause-notes
returns-clause-notes g c = (
  c.in_ok-text.text.items,
  c.in_ok-text.ensures.whole.0,
  (c.in_ok-text.ensures.whole.1, c.on_checked.ensures ∙ ap (check_notes c.args.choice) c.deref-2.ensures.value),
)

pub returns-in_err-parse_text-clause-error : goal.returns-in_err-parse_text-clause-error
returns-in_err-parse_text-clause-error g c =
    let e = c.in_err-parse_text.field-0.0 in
    error_passed_to_result c.from_residual-in_err-parse_text.result e _ c.from_residual-in_err-parse_text.ensures.1
    (of_input c.args.choice _ _ c.in_ok-text.text.items e c.in_ok-text.ensures.whole
    (subst (λ (bytes : List ℕ). (e ≡ Memory) ⊎ ReportsError (format_for c.args.choice bytes) bytes None e) c.deref.ensures.value c.in_err-parse_text.ensures.reported))
