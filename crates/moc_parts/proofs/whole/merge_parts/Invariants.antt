use Rattle.std.proofs.Common.{◌≡◌, take}
use Rattle.moc_parts.specs.Parts.{union_of}
use Rattle.moc_parts.specs.Prepared.{given_sets}
use Rattle.moc_parts.proofs.whole.merge_parts.Given as goal

abbrev pub invariant-loop-part : goal.invariant-loop-part
invariant-loop-part l = l.whole ≡ union_of (take l.part-index (given_sets l.parts))
