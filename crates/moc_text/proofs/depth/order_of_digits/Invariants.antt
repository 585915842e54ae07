use Rattle.std.proofs.Common.{◌≡◌, ◌≤◌, drop}
use Rattle.moc_text.specs.Private.JsonReading.{capped_order}
use Rattle.moc_text.proofs.depth.order_of_digits.Given as goal

abbrev pub invariant-loop-digit : goal.invariant-loop-digit
invariant-loop-digit l = record {
  small : l.depth ≤ 30;
  rest : capped_order l.depth (drop l.digit-index l.digits) ≡ capped_order 0 l.digits;
}
