-- After the counted digits come the other digits before the first byte that is not a digit.
use Rattle.std.proofs.Common.{◌≡◌, ◌+◌, drop}
use Rattle.std.specs.List.{position_or_len}
use Rattle.moc_forms.specs.Quotes.{is_not_digit}
use Rattle.moc_forms.proofs.quoting.leading_digit_count.Given as goal

abbrev pub invariant-loop-byte : goal.invariant-loop-byte
invariant-loop-byte l = record {
  count : l.count ≡ l.byte-index;
  whole : l.byte-index + position_or_len is_not_digit (drop l.byte-index l.line) ≡ position_or_len is_not_digit l.line;
}
