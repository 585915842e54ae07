-- The lines so far are answered, and nothing has failed.
use Rattle.std.proofs.Common.{◌≡◌, false}
use Rattle.moc_devices.specs.Devices.{FlushesNothing}
use Rattle.moc_lines.specs.Runs.{HasNotEnded}
use Rattle.moc_lines.proofs.Progress.{Progress}
use Rattle.moc_lines.proofs.runner.Runner.answer_lines.Given as goal

abbrev pub invariant-loop-line : goal.invariant-loop-line
invariant-loop-line g l = record {
  progress : Progress 1048576 g.A.Responder.rules l.fn.responder l.responder (g.R.GuardedSource.reading l.fn.reader) (g.R.GuardedSource.reading l.reader)
      (g.W.Sink.writing l.fn.writer) (g.W.Sink.writing l.writer) l.self.lines.unread l.self.pending.items l.line;
  more : HasNotEnded (g.R.GuardedSource.reading l.fn.reader) (g.R.GuardedSource.reading l.reader);
  reader : g.R.GuardedSource.mark l.reader ≡ false;
  writer : g.W.Sink.mark l.writer ≡ false;
  unflushed : FlushesNothing g.W.Sink.flushed g.W.Sink.flushes l.fn.writer l.writer;
}
