use Rattle.std.proofs.Common.{◌≡◌, drop}
use Rattle.moc_forms.specs.Finding.{first_nonblank_byte}
use Rattle.moc_forms.proofs.finding.first_nonblank_byte.Given as goal

abbrev pub invariant-loop-byte : goal.invariant-loop-byte
invariant-loop-byte l = first_nonblank_byte (drop l.byte-index l.text) ≡ first_nonblank_byte l.text
