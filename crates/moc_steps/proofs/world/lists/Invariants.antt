use Rattle.std.proofs.Common.{◌≡◌, ℕ, None, Some, get_or, length, map, cond, nat_lt}
use Rattle.std.specs.Option.{option_copied}
use Rattle.moc_steps.proofs.world.lists.Given as goal

-- the lists of the parts below b are filled
abbrev pub invariant-loop-b : goal.invariant-loop-b
invariant-loop-b l =
    (length l.lists ≡ 12)
    × ((k : ℕ) → get_or (map option_copied l.lists) k None ≡ cond (nat_lt k l.b) (get_or (map (λ s. Some s) l.parts) k None) None)
