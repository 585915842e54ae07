use Rattle.std.proofs.Common.{◌≡◌, ℕ}
use Rattle.moc_parts.proofs.Changing.{IsHalfway}
use Rattle.moc_parts.proofs.draft.Draft.change.Given as goal

abbrev pub invariant-loop-part : goal.invariant-loop-part
invariant-loop-part l =
    (n : ℕ) × IsHalfway l.change l.fn.self.set l.self.set l.changed_pixels n l.part-iterator × (l.self.before ≡ l.fn.self.before)
