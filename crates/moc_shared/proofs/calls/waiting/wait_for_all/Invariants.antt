use Rattle.std.proofs.Common.{◌≡◌, ◌<◌, ◌≤◌, ℕ, List, length, is_some, None}
use Rattle.moc_shared.specs.Private.Seats.{IsCarried, notes_below, slot_at, AreWithinOwnParts}
use Rattle.moc_shared.specs.Private.StepEffects.{with_parts, with_misses}
use Rattle.moc_shared.specs.Private.Slots.{in_footprint, AreWaits}
use Rattle.moc_parts.specs.Batches.{footprint_of_all}
use Rattle.moc_parts.specs.Lemmas.{IsRemaining}
use Rattle.moc_shared.proofs.calls.waiting.wait_for_all.Given as goal

-- the parts of the footprint from `next` on remain
abbrev pub invariant-loop-part : goal.invariant-loop-part
invariant-loop-part g l = record {
  next : ℕ;
  remains : IsRemaining (footprint_of_all l.batch) next l.part-iterator;
  same : (l.seat.table_id ≡ l.initial.seat.table_id) × (l.seat.id ≡ l.initial.seat.id);
  carried : IsCarried l.seat.me;
  view : (waits : List (ℕ × ℕ))
      × (l.seat.me.0 ≡ with_parts (with_misses l.initial.seat.me.0 waits) (notes_below l.slots next))
      × AreWaits (in_footprint l.batch) l.initial.seat.me.0 waits;
  long : length l.slots ≡ 12;
  so_far : (k : ℕ) → k < next → is_some (slot_at l.slots k) ≡ footprint_of_all l.batch k;
  beyond : (k : ℕ) → next ≤ k → slot_at l.slots k ≡ None;
  own : AreWithinOwnParts l.slots;
}
