use Rattle.std.proofs.Common.{◌≡◌, ◌<◌, ◌≤◌, ◌-◌, ◌&&◌, ℕ, nat_lt}
use Rattle.std.specs.FinSet as set
use Rattle.moc_ranges.specs.Operations.{part_of}
use Rattle.moc_parts.proofs.footprint.parts_met.Given as goal

abbrev pub invariant-loop-b : goal.invariant-loop-b
invariant-loop-b l = (l.from ≤ 12) × ((k : ℕ) → k < 12 → set.contains l.parts k ≡ (nat_lt k l.from && nat_lt 0 (set.len (part_of l.operand k))))

abbrev pub decreases-loop-b : goal.decreases-loop-b
decreases-loop-b l = 12 - l.from
