use Rattle.std.proofs.Common.{◌≡◌, ◌≤◌, ℕ, None, get_or, cond, nat_lt}
use Rattle.moc_steps.proofs.prepared_update.share_lists.Given as goal

-- the lists of the earlier parts are shared, and the others are still there
abbrev pub invariant-loop-part : goal.invariant-loop-part
invariant-loop-part l =
    ((k : ℕ) → get_or l.lists k None ≡ cond (nat_lt k l.part-index) (get_or l.fn.prepared.lists k None) None)
    × ((k : ℕ) → l.part-index ≤ k → get_or l.prepared.lists k None ≡ get_or l.fn.prepared.lists k None)
    × (l.prepared.replies ≡ l.fn.prepared.replies)
