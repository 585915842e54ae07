-- The answers so far are written except for what is pending.
use Rattle.std.proofs.Common.{◌<◌, ℕ, List, false, length}
use Rattle.std.specs.List.{sum_by}
use Rattle.moc_devices.specs.Devices.{OnlyWrites}
use Rattle.moc_script.proofs.Joinings.{Turns}
use Rattle.moc_script.proofs.crews.merging.AnswerMerger.write_turns.Given as goal

abbrev pub invariant-loop-answer : goal.invariant-loop-answer
invariant-loop-answer g l = record {
  turns : Turns l.fn.self.walks.items l.self.walks.items l.turn (g.W.Sink.writing l.fn.writer) (g.W.Sink.writing l.writer) l.self.pending.items;
  low : l.turn < length l.fn.self.walks.items;
  writes : OnlyWrites g.W.Sink.mark g.W.Sink.flushed g.W.Sink.flushes l.fn.writer l.writer false;
}

abbrev pub decreases-loop-answer : goal.decreases-loop-answer
decreases-loop-answer g l = sum_by {X = List (List ℕ)} (λ texts. length texts) l.self.walks.items
