use Rattle.std.proofs.Common.{◌≡◌, ◌<◌, ◌≤◌, false, length}
use Rattle.moc_conversion.specs.Private.Running.{IsOpen, RunsTo}
use Rattle.moc_conversion.proofs.combination.read_texts.Given as goal

abbrev pub invariant-loop-piece : goal.invariant-loop-piece
invariant-loop-piece g l = record {
  unmarked : g.R.Source.mark l.input ≡ false;
  buffer : 0 < length l.buffer.items;
  opened : IsOpen l.texts;
  processed : (runs : RunsTo (g.R.Source.reading l.fn.input) (g.R.Source.reading l.input) l.initial.texts l.texts) × (l._piece ≤ length runs.0);
}
