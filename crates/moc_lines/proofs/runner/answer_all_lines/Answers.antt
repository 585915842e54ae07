-- The input of a run that succeeds is answered whole.
use Rattle.moc_lines.proofs.Endings.{AnswersAll-ok}
use Rattle.moc_lines.proofs.runner.answer_all_lines.Goals as goal

pub returns : goal.returns
returns g c = record {
  runs = c.run.ensures.runs;
  answers = AnswersAll-ok _ _ _ _ _ _ _ c.run.result c.run.ensures.runs;
  end = c.run.ensures.end;
  flushes = c.run.ensures.flushes;
  devices = c.run.ensures.devices;
}
