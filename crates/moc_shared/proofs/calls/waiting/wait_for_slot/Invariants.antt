use Rattle.std.proofs.Common.{◌≡◌, ℕ, List}
use Rattle.moc_shared.specs.Private.Seats.{IsCarried}
use Rattle.moc_shared.specs.Private.StepEffects.{with_misses}
use Rattle.moc_shared.specs.Private.Slots.{is_only_part, AreWaits}
use Rattle.moc_shared.proofs.calls.waiting.wait_for_slot.Given as goal

abbrev pub invariant-loop : goal.invariant-loop
invariant-loop g l = record {
  same : (l.seat.table_id ≡ l.initial.seat.table_id) × (l.seat.id ≡ l.initial.seat.id);
  carried : IsCarried l.seat.me;
  view : (waits : List (ℕ × ℕ)) × (l.seat.me.0 ≡ with_misses l.initial.seat.me.0 waits)
      × AreWaits (is_only_part l.part) l.initial.seat.me.0 waits;
}
