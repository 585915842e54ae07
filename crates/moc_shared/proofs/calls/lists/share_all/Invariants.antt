use Rattle.std.proofs.Common.{◌≡◌, ◌<◌, ◌≤◌, ℕ, length, None, get_or}
use Rattle.moc_shared.specs.Private.Seats.{slot_at, content}
use Rattle.moc_shared.specs.Private.Slots.{changed_content}
use Rattle.moc_shared.proofs.calls.lists.share_all.Given as goal

abbrev pub invariant-loop-part : goal.invariant-loop-part
invariant-loop-part l = record {
  replies : l.changes.replies ≡ l.initial.changes.replies;
  long : length l.edited ≡ 12;
  shared : (k : ℕ) → k < l.part-index
      → content (slot_at l.edited k) ≡ changed_content (get_or l.initial.changes.lists k None) (content (slot_at l.slots k));
  left : (k : ℕ) → l.part-index ≤ k → get_or l.changes.lists k None ≡ get_or l.initial.changes.lists k None;
  empty_slots : (k : ℕ) → l.part-index ≤ k → slot_at l.edited k ≡ None;
}
