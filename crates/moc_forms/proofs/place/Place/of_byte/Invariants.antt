use Rattle.std.proofs.Common.{◌≡◌, ◌+◌, ◌≤◌, length, drop, take, count_by}
use Rattle.std.specs.List.{after_last}
use Rattle.moc_text.specs.Lines.{is_line_feed}
use Rattle.moc_forms.proofs.place.Place.of_byte.Given as goal

abbrev pub invariant-loop-byte : goal.invariant-loop-byte
invariant-loop-byte l = record {
  line_bounded : l.line ≤ l.byte-index + 1;
  column_bounded : l.column ≤ l.byte-index;
  line : l.line + count_by is_line_feed (drop l.byte-index (take l.at l.text)) ≡ 1 + count_by is_line_feed (take l.at l.text);
  column : l.column ≡ length (after_last is_line_feed (take l.byte-index (take l.at l.text)));
}
