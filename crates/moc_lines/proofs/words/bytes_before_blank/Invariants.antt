-- After the counted bytes come the other bytes before the first blank.
use Rattle.std.proofs.Common.{◌≡◌, ◌+◌, drop}
use Rattle.std.specs.List.{position_or_len}
use Rattle.moc_lines.specs.Language.{is_line_blank}
use Rattle.moc_lines.proofs.words.bytes_before_blank.Given as goal

abbrev pub invariant-loop-byte : goal.invariant-loop-byte
invariant-loop-byte l = record {
  count : l.count ≡ l.byte-index;
  whole : l.byte-index + position_or_len is_line_blank (drop l.byte-index l.text) ≡ position_or_len is_line_blank l.text;
}
