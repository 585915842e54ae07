use Rattle.moc_conversion.proofs.Checks.{error_passed_to_result, no_memory_together}
use Rattle.moc_conversion.proofs.Depths.{together_written}
use Rattle.moc_conversion.proofs.combination.combine_input.Goals as goal

pub text_of-requires : goal.text_of-requires
text_of-requires g c = record {
  fits =
      together_written c.args.operation c.args.choice _ _ c.in_ok-parsed.parsed
      c.in_ok-parsed.ensures.represents;
}

pub returns-clause-combines : goal.returns-clause-combines
returns-clause-combines g c = (
  c.in_ok-parsed.parsed,
  c.in_ok-parsed.ensures.represents,
  c.in_ok-text.ensures.text,
)

pub returns-in_err-parsed-clause-error : goal.returns-in_err-parsed-clause-error
returns-in_err-parsed-clause-error g c =
    error_passed_to_result c.from_residual.result c.in_err-parsed.field-0.0 _ c.from_residual.ensures.1 c.in_err-parsed.ensures.error

pub returns-in_err-text-clause-error : goal.returns-in_err-text-clause-error
returns-in_err-text-clause-error g c =
    no_memory_together c.from_residual-in_err-text.result c.args.choice _ _ c.from_residual-in_err-text.ensures.1
