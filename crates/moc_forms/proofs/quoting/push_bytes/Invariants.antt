use Rattle.std.proofs.Common.{◌≡◌, ◌++◌, drop}
use Rattle.std.specs.String.{string_bytes}
use Rattle.moc_forms.specs.Quotes.{bytes_quoted}
use Rattle.moc_forms.proofs.quoting.push_bytes.Given as goal

abbrev pub invariant-loop-byte : goal.invariant-loop-byte
invariant-loop-byte l =
    string_bytes l.text ++ bytes_quoted (drop l.byte-index l.bytes) ≡ string_bytes l.fn.text ++ bytes_quoted l.bytes
