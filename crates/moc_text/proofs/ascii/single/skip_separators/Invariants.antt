use Rattle.std.proofs.Common.{ℕ, List, Option, length}
use Rattle.moc_lists.specs.RangeList.{NumberSet}
use Rattle.moc_text.specs.Private.AsciiReading.{Progress}
use Rattle.moc_text.proofs.ascii.single.skip_separators.Given as goal

abbrev pub invariant-loop-rest : goal.invariant-loop-rest
invariant-loop-rest l =
    (text : List ℕ) (a : NumberSet) (order moc_order : Option ℕ) → Progress text l.bytes a order moc_order → Progress text l.rest a order moc_order

abbrev pub decreases-loop-rest : goal.decreases-loop-rest
decreases-loop-rest l = length l.rest
