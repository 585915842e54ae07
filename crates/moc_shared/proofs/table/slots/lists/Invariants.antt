use Rattle.std.proofs.Common.{◌≡◌, ◌<◌, ℕ, length, None, get_or}
use Rattle.std.specs.Option.{option_copied}
use Rattle.moc_shared.specs.Private.Seats.{slot_at, content}
use Rattle.moc_shared.proofs.table.slots.lists.Given as goal

abbrev pub invariant-loop-b : goal.invariant-loop-b
invariant-loop-b l = record {
  long : length l.lists ≡ 12;
  so_far : (k : ℕ) → k < l.b → option_copied (get_or l.lists k None) ≡ content (slot_at l.slots k);
}
