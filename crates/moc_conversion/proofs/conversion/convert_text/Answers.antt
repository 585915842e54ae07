use Rattle.moc_conversion.proofs.Checks.{no_memory_of_text}
use Rattle.moc_conversion.proofs.Depths.{text_written}
use Rattle.moc_conversion.proofs.conversion.convert_text.Goals as goal

pub text_of-requires : goal.text_of-requires
text_of-requires c = record {
  fits = text_written c.in_ok-parsed.parsed.format c.args.text.now c.in_ok-parsed.parsed.set c.in_ok-parsed.parsed.moc_order
      c.in_ok-parsed.ensures.represents.0;
}

pub returns-clause-converts : goal.returns-clause-converts
returns-clause-converts c = (c.in_ok-parsed.parsed, c.in_ok-parsed.ensures.represents, c.in_ok-text_of.ensures.text)

pub returns-in_err-text_of-clause-error : goal.returns-in_err-text_of-clause-error
returns-in_err-text_of-clause-error c =
    no_memory_of_text c.from_residual-in_err-text_of.result c.args.choice c.args.text.now c.from_residual-in_err-text_of.ensures.1
