-- After the counted bytes come the other bytes before the first line feed.
use Rattle.std.proofs.Common.{◌≡◌, ◌+◌, drop}
use Rattle.std.specs.List.{position_or_len}
use Rattle.moc_text.specs.Lines.{is_line_feed}
use Rattle.moc_forms.proofs.quoting.line_before_feed.Given as goal

abbrev pub invariant-loop-byte : goal.invariant-loop-byte
invariant-loop-byte l = record {
  count : l.len ≡ l.byte-index;
  whole : l.byte-index + position_or_len is_line_feed (drop l.byte-index l.bytes) ≡ position_or_len is_line_feed l.bytes;
}
