-- The count is the number of the bytes so far that follow the last separator.
use Rattle.std.proofs.Common.{◌≡◌, ◌≤◌, length, take}
use Rattle.std.specs.List.{after_last}
use Rattle.moc_text.specs.Ascii.{is_separator}
use Rattle.moc_forms.proofs.quoting.last_word_len.Given as goal

abbrev pub invariant-loop-byte : goal.invariant-loop-byte
invariant-loop-byte l = record {
  within : l.count ≤ l.byte-index;
  same : l.count ≡ length (after_last is_separator (take l.byte-index l.bytes));
}
