use Rattle.std.proofs.Common.{ℕ, List, refl, subst}
use Rattle.moc_forms.specs.Formats.{FormatFails, FormatRepresents}
use Rattle.moc_conversion.proofs.Checks.{no_memory_converting, not_read}
use Rattle.moc_conversion.proofs.Depths.{text_written}
use Rattle.moc_conversion.proofs.conversion.convert_input.Goals as goal

pub returns-clause-error : goal.returns-clause-error
returns-clause-error g c =
    not_read c.args.from _ _ c.in_ok-text.text.items c.in-Err.error c.of_conversion.result c.in_ok-text.ensures.whole
    c.of_conversion.ensures.memory c.of_conversion.ensures.alone
    (subst (λ (bytes : List ℕ). FormatFails c.args.from bytes c.in-Err.error) c.deref.ensures.value c.in-Err.ensures.error)

pub text_of-requires : goal.text_of-requires
text_of-requires g c = record {
  fits = text_written c.args.from _ c.in-Ok.set c.in-Ok.moc_order c.in-Ok.ensures.represents;
}

pub returns-in_err-text_of-in-Ok-clause-error : goal.returns-in_err-text_of-in-Ok-clause-error
returns-in_err-text_of-in-Ok-clause-error g c =
    no_memory_converting c.from_residual-in_err-text_of-in-Ok.result c.args.from _ _ c.from_residual-in_err-text_of-in-Ok.ensures.1

pub returns-in-Ok-clause-converts : goal.returns-in-Ok-clause-converts
returns-in-Ok-clause-converts g c = (
  record { set = c.in-Ok.set; moc_order = c.in-Ok.moc_order; format = c.args.from },
  (
    c.in_ok-text.text.items,
    c.in_ok-text.ensures.whole.0,
    (
      c.in_ok-text.ensures.whole.1,
      c.in_ok-text.ensures.whole.2,
      (
        subst (λ (bytes : List ℕ). FormatRepresents c.args.from bytes c.in-Ok.set c.in-Ok.moc_order) c.deref.ensures.value c.in-Ok.ensures.represents,
        refl,
      ),
    ),
  ),
  c.in_ok-text_of-in-Ok.ensures.text,
)
