-- The count is the number of the bytes so far that follow the last slash.
use Rattle.std.proofs.Common.{◌≡◌, ◌≤◌, length, take}
use Rattle.std.specs.List.{after_last}
use Rattle.moc_sphere.specs.Names.{is_slash}
use Rattle.moc_forms.proofs.expectation.after_last_slash_len.Given as goal

abbrev pub invariant-loop-byte : goal.invariant-loop-byte
invariant-loop-byte l = record {
  within : l.count ≤ l.byte-index;
  same : l.count ≡ length (after_last is_slash (take l.byte-index l.bytes));
}
