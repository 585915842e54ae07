use Rattle.moc_conversion.proofs.conversion.describe_input.Goals as goal

pub returns-clause-describes : goal.returns-clause-describes
returns-clause-describes g c = (
  c.in_ok-parsed.parsed,
  c.in_ok-parsed.ensures.represents,
  c.in_ok-describe.ensures,
)
