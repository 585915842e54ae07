use Rattle.std.proofs.Common.{◌≡◌, ◌++◌, ℕ, List, length}
use Rattle.moc_conversion.specs.Private.Running.{IsOpen, Processes}
use Rattle.moc_conversion.proofs.combination.Combination.push_bytes.Given as goal

abbrev pub invariant-loop-part : goal.invariant-loop-part
invariant-loop-part l = IsOpen l.self × ((processed : List ℕ) × (l.bytes ≡ processed ++ l.rest) × Processes l.fn.self processed l.self)

abbrev pub decreases-loop-part : goal.decreases-loop-part
decreases-loop-part l = length l.rest
