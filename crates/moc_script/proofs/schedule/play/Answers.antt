-- The machine is empty at first.
use Rattle.std.proofs.Common.{subst, refl, inl, arith, ℕ, [], Err}
use Rattle.std.specs.Result.{OnOk}
use Rattle.moc_devices.specs.Devices.{SourceState, SinkState}
use Rattle.moc_devices.specs.Lemmas.{Accepts-nil, Delivers-nil}
use Rattle.moc_lines.specs.Runs.{Rules, script_text, line_limit, AnswersAll, Runs}
use Rattle.moc_lines.specs.declared.run_error.RunError.TheVariants.{Memory}
use Rattle.moc_script.specs.Schedules.{Schedule, schedule_rules}
use Rattle.moc_script.proofs.schedule.play.Goals as goal

-- nothing was read or written
fails_before_start : {S : Type 0} (limit : ℕ) (rules : Rules S) (s : S) (a : SourceState) (w : SinkState) → Runs limit rules s a a w w (Err (Memory 0))
fails_before_start limit rules s a w = record {
  input = [];
  output = [];
  delivered = Delivers-nil a;
  accepted = Accepts-nil w;
  is_prefix = λ more _. (script_text rules limit s more, refl);
  is_output = (inl (record { none = λ _. refl; some = λ _. omega arith; next = omega arith }), tt, refl);
}

pub returns-in_default-clause-plays : goal.returns-in_default-clause-plays
returns-in_default-clause-plays g c = fails_before_start _ _ _ _ _

pub returns : goal.returns
returns g c = record {
  plays = rw (c.in-Ok.ensures) at c.answer_all_lines.ensures.runs;
  answers = subst (λ (s : Schedule). OnOk c.answer_all_lines.result (AnswersAll (script_text schedule_rules line_limit s)
      (g.R.GuardedSource.reading c.args.reader.now) (g.R.GuardedSource.reading c.answer_all_lines.new.reader)
      (g.W.Sink.writing c.args.writer.now) (g.W.Sink.writing c.answer_all_lines.new.writer)))
      c.in-Ok.ensures c.answer_all_lines.ensures.answers;
  end = c.answer_all_lines.ensures.end;
  flushes = c.answer_all_lines.ensures.flushes;
  devices = c.answer_all_lines.ensures.devices;
}
