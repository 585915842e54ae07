-- The bytes that came, after those in the buffer, are the line so far and the buffer; the line has no line feed.
use Rattle.std.proofs.Common.{◌≡◌, ◌-◌, length}
use Rattle.moc_lines.specs.Runs.{HasNotEnded}
use Rattle.moc_lines.proofs.Turns.{Turn}
use Rattle.moc_lines.proofs.line_reader.LineReader.next_line.Given as goal

abbrev pub invariant-loop-self : goal.invariant-loop-self
invariant-loop-self g l = record {
  turn : Turn 1048576 l.fn.self (g.R.GuardedSource.reading l.fn.reader) l.self (g.R.GuardedSource.reading l.reader);
  more : HasNotEnded (g.R.GuardedSource.reading l.fn.reader) (g.R.GuardedSource.reading l.reader);
  marks : g.R.GuardedSource.mark l.reader ≡ g.R.GuardedSource.mark l.fn.reader;
}

abbrev pub decreases-loop-self : goal.decreases-loop-self
decreases-loop-self g l = 1048576 - length l.self.line
