use Rattle.std.proofs.Common.{◌≡◌}
use Rattle.moc_parts.specs.Parts.{parts_from}
use Rattle.moc_parts.proofs.part.PartSet.first_from.Given as goal

-- no part before the current number is in the set
abbrev pub invariant-loop-number : goal.invariant-loop-number
invariant-loop-number l = parts_from l.self l.number ≡ parts_from l.self l.from
