use Rattle.std.proofs.Common.{◌≡◌, ℕ, false}
use Rattle.moc_ranges.specs.Operations.{meets}
use Rattle.moc_parts.specs.Commands.{parts_met}
use Rattle.moc_parts.specs.Lemmas.{IsRemaining}
use Rattle.moc_parts.proofs.Twelve.{first_parts}
use Rattle.moc_parts.proofs.draft.Draft.meets.Given as goal

-- the parts from `n` on remain, and no earlier part meets the other set
abbrev pub invariant-loop-part : goal.invariant-loop-part
invariant-loop-part l =
    (n : ℕ) × IsRemaining (parts_met l.other) n l.part-iterator × (meets (first_parts l.self.set n) l.other ≡ false)
