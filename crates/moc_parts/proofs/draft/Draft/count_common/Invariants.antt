use Rattle.std.proofs.Common.{◌≡◌, ℕ}
use Rattle.std.specs.FinSet as set
use Rattle.moc_parts.specs.Commands.{parts_met}
use Rattle.moc_parts.specs.Lemmas.{IsRemaining}
use Rattle.moc_parts.proofs.Twelve.{first_parts}
use Rattle.moc_parts.proofs.draft.Draft.count_common.Given as goal

-- the parts from `n` on remain, and the earlier parts are counted
abbrev pub invariant-loop-part : goal.invariant-loop-part
invariant-loop-part l =
    (n : ℕ) × IsRemaining (parts_met l.other) n l.part-iterator
    × (l.total ≡ set.len (set.intersection (first_parts l.self.set n) l.other))
