use Rattle.std.proofs.Common.{◌≡◌, ◌≤◌, length}
use Rattle.moc_shared.specs.Private.Seats.{IsCarried, notes_below}
use Rattle.moc_shared.specs.Private.StepEffects.{with_holds}
use Rattle.moc_shared.proofs.calls.footprint.give_below.Given as goal

abbrev pub invariant-loop-number : goal.invariant-loop-number
invariant-loop-number l = record {
  same : (l.seat.table_id ≡ l.initial.seat.table_id) × (l.seat.id ≡ l.initial.seat.id);
  carried : IsCarried l.seat.me;
  holds : l.seat.me.0 ≡ with_holds l.initial.seat.me.0 (notes_below l.slots l.number);
  within : l.number ≤ 12;
  long : length l.slots ≡ 12;
}
