use Rattle.std.proofs.Common.{◌≡◌, ◌≤◌, ℕ, None}
use Rattle.moc_shared.specs.Private.Seats.{slot_at}
use Rattle.moc_shared.proofs.table.slots.highest.Given as goal

abbrev pub invariant-loop-number : goal.invariant-loop-number
invariant-loop-number l = (k : ℕ) → l.number ≤ k → slot_at l.slots k ≡ None
