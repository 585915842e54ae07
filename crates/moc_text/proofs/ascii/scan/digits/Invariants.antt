use Rattle.std.proofs.Common.{◌≡◌, length}
use Rattle.moc_text.specs.Private.Scan.{leading_digits, after_digits, saturated_value}
use Rattle.moc_text.proofs.ascii.scan.digits.Given as goal

abbrev pub invariant-loop-rest : goal.invariant-loop-rest
invariant-loop-rest l = record {
  value : saturated_value l.value (leading_digits l.rest) ≡ saturated_value 0 (leading_digits l.bytes);
  rest : after_digits l.rest ≡ after_digits l.bytes;
}

abbrev pub decreases-loop-rest : goal.decreases-loop-rest
decreases-loop-rest l = length l.rest
