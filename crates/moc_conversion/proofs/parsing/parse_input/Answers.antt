use Rattle.std.proofs.Common.{◌≡◌, ◌⊎◌, ℕ, List, None, subst}
use Rattle.std.proofs.lemmas.Result.{IfErr-weaker, IfOk-weaker}
use Rattle.moc_forms.specs.Combining.{TextRepresents}
use Rattle.moc_forms.specs.Finding.{format_for}
use Rattle.moc_conversion.specs.Conversion.{ReportsError, input_limit}
use Rattle.moc_conversion.specs.declared.error.InputError.TheVariants.{Memory}
use Rattle.moc_conversion.proofs.Checks.{all_of, of_input}
use Rattle.moc_conversion.proofs.parsing.parse_input.Goals as goal

pub returns-clause-represents : goal.returns-clause-represents
returns-clause-represents g c = IfOk-weaker c.parse_text.result _ _ (λ r represents.
    all_of input_limit (λ bytes. TextRepresents c.args.choice bytes r) _ _ c.in_ok-text.text.items c.in_ok-text.ensures.whole
    (subst (λ (bytes : List ℕ). TextRepresents c.args.choice bytes r) c.deref.ensures.value represents)) c.parse_text.ensures.represents

pub returns-clause-error : goal.returns-clause-error
returns-clause-error g c = IfErr-weaker c.parse_text.result _ _ (λ e reported.
    of_input c.args.choice _ _ c.in_ok-text.text.items e c.in_ok-text.ensures.whole
    (subst (λ (bytes : List ℕ). (e ≡ Memory) ⊎ ReportsError (format_for c.args.choice bytes) bytes None e) c.deref.ensures.value reported))
    c.parse_text.ensures.reported
