use Rattle.moc_conversion.proofs.Checks.{error_passed_to_result}
use Rattle.moc_conversion.proofs.Combinations.{fails_finishing, fails_processing, no_memory_combining, whole}
use Rattle.moc_conversion.proofs.Depths.{combined_written}
use Rattle.moc_conversion.proofs.combination.combine_texts.Goals as goal

pub text_of-requires : goal.text_of-requires
text_of-requires c = record {
  fits = combined_written c.args.operation c.args.choice c.args.text.now c.in_ok-parsed.parsed
      (whole c.args.operation c.args.choice _ c.new-texts.ensures.begins _ c.args.text.now c.in_ok-parsed.parsed c.in_ok-push_bytes.ensures.processes c.in_ok-parsed.ensures.represents).represents;
}

pub returns-clause-combines : goal.returns-clause-combines
returns-clause-combines c = (
  c.in_ok-parsed.parsed,
  (whole c.args.operation c.args.choice _ c.new-texts.ensures.begins _ c.args.text.now c.in_ok-parsed.parsed c.in_ok-push_bytes.ensures.processes c.in_ok-parsed.ensures.represents).represents,
  c.in_ok-text_of.ensures.text,
)

pub returns-in_err-push_bytes-clause-error : goal.returns-in_err-push_bytes-clause-error
returns-in_err-push_bytes-clause-error c =
    let reported = c.in_err-push_bytes.field-0.0 in
    error_passed_to_result c.from_residual.result reported _ c.from_residual.ensures.1
    (fails_processing c.args.operation c.args.choice _ c.new-texts.ensures.begins c.args.text.now reported c.in_err-push_bytes.ensures.error)

pub returns-in_err-parsed-clause-error : goal.returns-in_err-parsed-clause-error
returns-in_err-parsed-clause-error c =
    let reported = c.in_err-parsed.field-0.0 in
    error_passed_to_result c.from_residual-in_err-parsed.result reported _ c.from_residual-in_err-parsed.ensures.1
    (fails_finishing c.args.operation c.args.choice _ c.new-texts.ensures.begins c.args.text.now _ reported c.in_ok-push_bytes.ensures.processes c.in_err-parsed.ensures.error)

pub returns-in_err-text_of-clause-error : goal.returns-in_err-text_of-clause-error
returns-in_err-text_of-clause-error c =
    no_memory_combining c.from_residual-in_err-text_of.result c.args.choice c.args.text.now c.from_residual-in_err-text_of.ensures.1
