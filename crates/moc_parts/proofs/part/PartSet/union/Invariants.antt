use Rattle.std.proofs.Common.{◌≡◌}
use Rattle.std.specs.FinSet as set
use Rattle.moc_parts.proofs.Flags.{flagged_until}
use Rattle.moc_parts.proofs.part.PartSet.union.Given as goal

abbrev pub invariant-loop-part : goal.invariant-loop-part
invariant-loop-part l = l.parts ≡ set.union l.fn.self (flagged_until l.other-inside.flags l.part-index)
