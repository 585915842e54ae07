use Rattle.std.proofs.Common.{◌≡◌, ℕ, None, get_or, length, map, cond, nat_lt}
use Rattle.std.specs.Option.{option_copied}
use Rattle.moc_steps.proofs.prepared_update.lists_of.Given as goal

-- the elements below b are copied
abbrev pub invariant-loop-b : goal.invariant-loop-b
invariant-loop-b l = (length l.lists ≡ 12) × ((k : ℕ) → get_or (map option_copied l.lists) k None ≡ cond (nat_lt k l.b) (get_or l.fn.taken_lists k None) None)
