-- Each iteration of the loop, and each way out of it.
use Rattle.std.proofs.Common.{◌≡◌, ◌∙◌, Ok, ap, inl, sym, refl, arith}
use Rattle.moc_devices.specs.Lemmas.{Delivers-nil, FlushesNothing-none, FlushesNothing-later}
use Rattle.moc_lines.proofs.Outcomes.{at_ok, mark_is_false}
use Rattle.moc_lines.proofs.Progress.{at_line_kind, Progress-permits, Progress-start, Progress-sent, Progress-line, ReachedEnd-nothing, ReachedEnd-last, Ended-error, Ended-refused, Ended-uncounted, Ended-closed, Ended-write}
use Rattle.moc_lines.proofs.Turns.{HasNotEnded-later}
use Rattle.moc_lines.proofs.runner.Runner.answer_lines.Goals as goal

pub loop-line-init : goal.loop-line-init
loop-line-init g c = record {
  progress = Progress-start _ _ _ _ _ _ _ c.requires.unread c.requires.pending;
  more = inl refl;
  reader = c.requires.reader;
  writer = c.requires.writer;
  unflushed = FlushesNothing-none _;
}

pub next_line-requires-clause-permission : goal.next_line-requires-clause-permission
next_line-requires-clause-permission g c =
    let ok = sym c.is_err.ensures.value ∙ c.if-is_err.false in
    let sent = Progress-sent _ _ _ _ _ _ _ _ _ c.loop-line.self.lines c.send_if_due.new.self.lines _ _ _ _ c.send_if_due.result c.loop-line.invariant.progress ok c.send_if_due.ensures.sends c.send_if_due.ensures.lines refl in
    Progress-permits 1048576 _ g.R.GuardedSource.reading g.W.Sink.writing g.R.GuardedSource.mark g.W.Sink.mark g.R.GuardedSource.may_read _ _ _ _ _ _ _ _ _ c.requires.permission sent
    (at_ok c.send_if_due.result ok c.send_if_due.ensures.written) c.loop-line.invariant.more c.loop-line.invariant.reader (c.send_if_due.ensures.writes.marks c.loop-line.invariant.writer ∙ ok)

pub returns-then-is_err-clause-ended : goal.returns-then-is_err-clause-ended
returns-then-is_err-clause-ended g c = Ended-write _ _ _ _ _ _ _ _ _ _ _ _ _ _ c.loop-line.invariant.progress c.send_if_due.ensures.sends

pub returns-in_err-next_line-clause-ended : goal.returns-in_err-next_line-clause-ended
returns-in_err-next_line-clause-ended g c =
    let sent = Progress-sent _ _ _ _ _ _ _ _ _ c.loop-line.self.lines c.send_if_due.new.self.lines _ _ _ _ c.send_if_due.result c.loop-line.invariant.progress (sym c.is_err.ensures.value ∙ c.if-is_err.false) c.send_if_due.ensures.sends c.send_if_due.ensures.lines c.next_line.ensures.pending in
    Ended-error _ _ _ _ _ _ _ _ _ c.send_if_due.new.self.lines c.next_line.new.self.lines _ _ sent c.from_residual.result c.in_err-next_line.field-0.0 c.from_residual.ensures.1 c.in_err-next_line.ensures.takes c.in_err-next_line.ensures.number _ refl

pub returns-in-EndOfInput-clause-ended : goal.returns-in-EndOfInput-clause-ended
returns-in-EndOfInput-clause-ended g c =
    let sent = Progress-sent _ _ _ _ _ _ _ _ _ c.loop-line.self.lines c.send_if_due.new.self.lines _ _ _ _ c.send_if_due.result c.loop-line.invariant.progress (sym c.is_err.ensures.value ∙ c.if-is_err.false) c.send_if_due.ensures.sends c.send_if_due.ensures.lines c.next_line.ensures.pending in
    let takes = at_line_kind 1048576 c.send_if_due.new.self.lines c.next_line.new.self.lines _ _ _ _ c.in-EndOfInput.is c.in_ok-next_line.ensures.takes in
    let answered = ReachedEnd-nothing _ _ _ _ _ _ _ _ _ c.send_if_due.new.self.lines c.next_line.new.self.lines _ _ sent takes in
    let close = c.close-in-EndOfInput in
    Ended-closed _ _ _ _ _ _ _ _ _ _ _ close.result answered close.ensures.text close.ensures.memory close.ensures.err close.ensures.some

pub returns-in-LastLine-clause-ended : goal.returns-in-LastLine-clause-ended
returns-in-LastLine-clause-ended g c =
    let sent = Progress-sent _ _ _ _ _ _ _ _ _ c.loop-line.self.lines c.send_if_due.new.self.lines _ _ _ _ c.send_if_due.result c.loop-line.invariant.progress (sym c.is_err.ensures.value ∙ c.if-is_err.false) c.send_if_due.ensures.sends c.send_if_due.ensures.lines c.next_line.ensures.pending in
    let takes = at_line_kind 1048576 c.send_if_due.new.self.lines c.next_line.new.self.lines _ _ _ _ c.in-LastLine.is c.in_ok-next_line.ensures.takes in
    let line = c.in_ok-answer_line-in-LastLine.ensures in
    let answered = ReachedEnd-last _ _ _ _ _ _ _ _ _ c.send_if_due.new.self.lines c.next_line.new.self.lines _ _ sent takes _ _ line.text line.after in
    Ended-closed _ _ _ _ _ _ _ _ _ _ _ c.close.result answered c.close.ensures.text c.close.ensures.memory c.close.ensures.err c.close.ensures.some

pub returns-in_err-answer_line-in-Line-clause-ended : goal.returns-in_err-answer_line-in-Line-clause-ended
returns-in_err-answer_line-in-Line-clause-ended g c =
    let sent = Progress-sent _ _ _ _ _ _ _ _ _ c.loop-line.self.lines c.send_if_due.new.self.lines _ _ _ _ c.send_if_due.result c.loop-line.invariant.progress (sym c.is_err.ensures.value ∙ c.if-is_err.false) c.send_if_due.ensures.sends c.send_if_due.ensures.lines c.next_line.ensures.pending in
    Ended-refused _ _ _ _ _ _ _ _ _ c.send_if_due.new.self.lines c.next_line.new.self.lines _ _ sent _ c.in_ok-next_line.ensures.takes (λ none. cc (none, c.in-Line.is)) _ c.from_residual-in_err-answer_line-in-Line.result c.in_err-answer_line-in-Line.field-0.0 c.from_residual-in_err-answer_line-in-Line.ensures.1 c.in_err-answer_line-in-Line.ensures.memory c.in_err-answer_line-in-Line.ensures.err

pub returns-in_err-answer_line-in-LastLine-clause-ended : goal.returns-in_err-answer_line-in-LastLine-clause-ended
returns-in_err-answer_line-in-LastLine-clause-ended g c =
    let sent = Progress-sent _ _ _ _ _ _ _ _ _ c.loop-line.self.lines c.send_if_due.new.self.lines _ _ _ _ c.send_if_due.result c.loop-line.invariant.progress (sym c.is_err.ensures.value ∙ c.if-is_err.false) c.send_if_due.ensures.sends c.send_if_due.ensures.lines c.next_line.ensures.pending in
    Ended-refused _ _ _ _ _ _ _ _ _ c.send_if_due.new.self.lines c.next_line.new.self.lines _ _ sent _ c.in_ok-next_line.ensures.takes (λ none. cc (none, c.in-LastLine.is)) _ c.from_residual-in_err-answer_line-in-LastLine.result c.in_err-answer_line-in-LastLine.field-0.0 c.from_residual-in_err-answer_line-in-LastLine.ensures.1 c.in_err-answer_line-in-LastLine.ensures.memory c.in_err-answer_line-in-LastLine.ensures.err

pub loop-line-preserved : goal.loop-line-preserved
loop-line-preserved g c =
    let sent = Progress-sent _ _ _ _ _ _ _ _ _ c.loop-line.self.lines c.send_if_due.new.self.lines _ _ _ _ c.send_if_due.result c.loop-line.invariant.progress (sym c.is_err.ensures.value ∙ c.if-is_err.false) c.send_if_due.ensures.sends c.send_if_due.ensures.lines c.next_line.ensures.pending in
    let answered = c.in_ok-answer_line-in-Line.ensures in
    record {
      progress = rw answered.lines (Progress-line _ _ _ _ _ _ _ _ _ c.send_if_due.new.self.lines c.next_line.new.self.lines _ _ sent (at_line_kind 1048576 c.send_if_due.new.self.lines c.next_line.new.self.lines _ _ _ _ c.in-Line.is c.in_ok-next_line.ensures.takes) _ _ answered.text answered.after);
      more = HasNotEnded-later _ _ _ c.loop-line.invariant.more (c.in_ok-next_line.ensures.more (ap (λ kind. Ok kind) c.in-Line.is));
      reader = mark_is_false _ c.next_line.ensures.read.1 (λ is. cc (c.in_ok-next_line.was, is));
      writer = c.send_if_due.ensures.writes.marks c.loop-line.invariant.writer ∙ sym c.is_err.ensures.value ∙ c.if-is_err.false;
      unflushed = FlushesNothing-later c.loop-line.invariant.unflushed c.send_if_due.ensures.writes.unflushed;
    }

pub returns-clause-ended : goal.returns-clause-ended
returns-clause-ended g c =
    let all : c.loop-line.line ≡ 18446744073709551615 = omega arith in
    rw (← all) (Ended-uncounted _ _ _ _ _ _ _ _ _ c.loop-line.self.lines c.loop-line.self.lines _ _ c.loop-line.invariant.progress all (Delivers-nil _))
