-- The digits so far are the value, saturated at the greatest number of 64 bits.
use Rattle.std.proofs.Common.{◌≡◌, ◌-◌, ◌^◌, min, true, take}
use Rattle.std.specs.Char.{is_ascii_digit}
use Rattle.std.specs.List.{list_all}
use Rattle.std.specs.Str.Parse.{digits_value}
use Rattle.moc_lines.proofs.words.parse_long_decimal.Given as goal

abbrev pub invariant-loop-byte : goal.invariant-loop-byte
invariant-loop-byte l = record {
  digits : list_all is_ascii_digit (take l.byte-index l.field) ≡ true;
  value : l.value ≡ min (digits_value 10 (take l.byte-index l.field)) (2 ^ 64 - 1);
}
