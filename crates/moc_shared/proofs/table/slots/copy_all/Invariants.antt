use Rattle.std.proofs.Common.{◌≡◌, ◌<◌, ◌≤◌, ℕ, length, None}
use Rattle.moc_shared.specs.Private.Seats.{slot_at, content}
use Rattle.moc_shared.proofs.table.slots.copy_all.Given as goal

abbrev pub invariant-loop-b : goal.invariant-loop-b
invariant-loop-b l = record {
  long : length l.copies ≡ 12;
  so_far : (k : ℕ) → k < l.b → content (slot_at l.copies k) ≡ content (slot_at l.slots k);
  empty_slots : (k : ℕ) → l.b ≤ k → slot_at l.copies k ≡ None;
}
