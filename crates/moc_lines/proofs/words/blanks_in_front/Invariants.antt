-- After the counted blanks come the other leading blanks.
use Rattle.std.proofs.Common.{◌≡◌, ◌+◌, drop}
use Rattle.std.specs.List.{prefix_len}
use Rattle.moc_lines.specs.Language.{is_line_blank}
use Rattle.moc_lines.proofs.words.blanks_in_front.Given as goal

abbrev pub invariant-loop-byte : goal.invariant-loop-byte
invariant-loop-byte l = record {
  count : l.count ≡ l.byte-index;
  whole : l.byte-index + prefix_len is_line_blank (drop l.byte-index l.text) ≡ prefix_len is_line_blank l.text;
}
