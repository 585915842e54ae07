use Rattle.std.proofs.Common.{◌∙◌, ℕ, Option, ap₂, subst₂}
use Rattle.moc_lists.specs.RangeList.{NumberSet}
use Rattle.moc_text.specs.AsciiText.{IsTooCoarse}
use Rattle.moc_forms.specs.Formats.{format_text}
use Rattle.moc_conversion.proofs.Checks.{no_memory_of_text}
use Rattle.moc_conversion.proofs.Depths.{change_written}
use Rattle.moc_conversion.proofs.conversion.change_text.Goals as goal

pub text_of-requires : goal.text_of-requires
text_of-requires c = record {
  fits = λ coarse.
      change_written c.args.change c.args.choice c.args.text.now c.in_ok-parsed.parsed
      c.in_ok-parsed.ensures.represents
      (subst₂ (λ (a : NumberSet) (k : Option ℕ). IsTooCoarse a k) c.in_ok-after.ensures.set c.order_to_state.ensures.order coarse);
}

pub returns-clause-changes : goal.returns-clause-changes
returns-clause-changes c = (
  c.in_ok-parsed.parsed,
  c.in_ok-parsed.ensures.represents,
  c.in_ok-text_of.ensures.text ∙ ap₂ (format_text c.in_ok-parsed.parsed.format) c.in_ok-after.ensures.set c.order_to_state.ensures.order,
)

pub returns-in_err-text_of-clause-error : goal.returns-in_err-text_of-clause-error
returns-in_err-text_of-clause-error c =
    no_memory_of_text c.from_residual-in_err-text_of.result c.args.choice c.args.text.now c.from_residual-in_err-text_of.ensures.1
