use Rattle.std.proofs.Common.{◌≡◌, false, ◌+◌, ◌-◌, ◌<◌, length}
use Rattle.moc_devices.specs.Devices.{Delivers}
use Rattle.moc_conversion.proofs.reading.read_whole.Given as goal

abbrev pub invariant-loop-input : goal.invariant-loop-input
invariant-loop-input g l = record {
  unmarked : g.R.Source.mark l.input ≡ false;
  buffer : 0 < length l.buffer.items;
  consumed : Delivers (g.R.Source.reading l.fn.input) (g.R.Source.reading l.input) l.text.items;
}

abbrev pub decreases-loop-input : goal.decreases-loop-input
decreases-loop-input g l = l.limit + 1 - length l.text.items
