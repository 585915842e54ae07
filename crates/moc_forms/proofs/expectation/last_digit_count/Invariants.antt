-- The count is the number of the bytes so far that follow the last one that is not a digit.
use Rattle.std.proofs.Common.{◌≡◌, ◌≤◌, length, take}
use Rattle.std.specs.List.{after_last}
use Rattle.moc_forms.specs.Quotes.{is_not_digit}
use Rattle.moc_forms.proofs.expectation.last_digit_count.Given as goal

abbrev pub invariant-loop-byte : goal.invariant-loop-byte
invariant-loop-byte l = record {
  within : l.count ≤ l.byte-index;
  same : l.count ≡ length (after_last is_not_digit (take l.byte-index l.bytes));
}
