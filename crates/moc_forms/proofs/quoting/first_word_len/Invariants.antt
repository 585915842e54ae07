-- After the counted bytes come the other bytes before the first separator.
use Rattle.std.proofs.Common.{◌≡◌, ◌+◌, drop}
use Rattle.std.specs.List.{position_or_len}
use Rattle.moc_text.specs.Ascii.{is_separator}
use Rattle.moc_forms.proofs.quoting.first_word_len.Given as goal

abbrev pub invariant-loop-byte : goal.invariant-loop-byte
invariant-loop-byte l = record {
  count : l.count ≡ l.byte-index;
  whole : l.byte-index + position_or_len is_separator (drop l.byte-index l.bytes) ≡ position_or_len is_separator l.bytes;
}
