-- The theorem is a pair of lemmas.
use Rattle.moc_lines.specs.Runs.{line_limit}
use Rattle.moc_lines.proofs.ReportedInput.{is_prefix, is_whole}
use Rattle.moc_lines.proofs.theorems.reported_input_is_answered.Goals as goal

pub returns : goal.returns
returns g c = record {
  is_prefix = is_prefix line_limit g.A.Responder.rules;
  is_whole = is_whole line_limit g.A.Responder.rules;
}
