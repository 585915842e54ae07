use Rattle.std.proofs.Common.{◌≡◌, ◌⊎◌, ℕ, List, Some, subst}
use Rattle.moc_forms.specs.Combining.{TextRepresents}
use Rattle.moc_forms.specs.Finding.{format_for}
use Rattle.moc_conversion.specs.Conversion.{ReportsError}
use Rattle.moc_conversion.specs.declared.error.InputError.TheVariants.{Memory}
use Rattle.moc_conversion.proofs.Checks.{error_passed_to_result}
use Rattle.moc_conversion.proofs.combination.Combination.combine.Goals as goal

pub returns-clause-represents : goal.returns-clause-represents
returns-clause-represents c = (
  c.in_ok-parsed.parsed,
  subst (λ (bytes : List ℕ). TextRepresents c.args.self.now.choice bytes c.in_ok-parsed.parsed) c.deref.ensures.value c.in_ok-parsed.ensures.represents,
  c.in_ok-combine.ensures.combine_next,
)

pub returns-in_err-parsed-clause-reported : goal.returns-in_err-parsed-clause-reported
returns-in_err-parsed-clause-reported c =
    let reported = c.in_err-parsed.field-0.0 in
    error_passed_to_result c.from_residual.result reported _ c.from_residual.ensures.1
    (subst (λ (bytes : List ℕ). (reported ≡ Memory) ⊎ ReportsError (format_for c.args.self.now.choice bytes) bytes (Some c.args.self.now.number) reported) c.deref.ensures.value
    c.in_err-parsed.ensures.reported)
