-- The set is empty at first.
use Rattle.moc_lines.proofs.script.run.Goals as goal

pub returns : goal.returns
returns g c = record {
  runs = rw (c.in-Ok.ensures, c.empty.ensures) at c.answer_all_lines.ensures.runs;
  answers = rw (c.in-Ok.ensures, c.empty.ensures) at c.answer_all_lines.ensures.answers;
  end = c.answer_all_lines.ensures.end;
  flushes = c.answer_all_lines.ensures.flushes;
  devices = c.answer_all_lines.ensures.devices;
}
