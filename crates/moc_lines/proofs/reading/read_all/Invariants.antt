-- All bytes so far are in the buffer.
use Rattle.std.proofs.Common.{◌≡◌, ◌-◌, ◌^◌, false, length}
use Rattle.moc_devices.specs.Devices.{Delivers}
use Rattle.moc_lines.specs.Private.Input.{IsScriptState}
use Rattle.moc_lines.proofs.reading.read_all.Given as goal

abbrev pub invariant-loop-script : goal.invariant-loop-script
invariant-loop-script g l = record {
  held : IsScriptState l.script.bytes.items l.script.start;
  given : Delivers (g.R.Source.reading l.fn.reader) (g.R.Source.reading l.reader) l.script.bytes.items;
  reader : g.R.Source.mark l.reader ≡ false;
  long : length l.chunk.items ≡ 65536;
}

abbrev pub decreases-loop-script : goal.decreases-loop-script
decreases-loop-script g l = 2 ^ 64 - length l.script.bytes.items
