use Rattle.std.proofs.Common.{◌≡◌, ℕ, ◌<◌, get_or, if◌then◌else◌}
use Rattle.std.specs.FinSet as set
use Rattle.moc_c.specs.Private.Lookup.{IsRest, IsTrueOf}
use Rattle.moc_c.proofs.arrays.fill_contained.Given as goal

abbrev pub invariant-loop-at : goal.invariant-loop-at
invariant-loop-at l =
    ((k : ℕ) → k < l.at → get_or l.out k 0 ≡ (if set.contains l.set (get_or l.pixels k 0) then 1 else 0))
    × IsTrueOf l.set l.known × IsRest l.set l.rest l.passed
