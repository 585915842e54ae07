use Rattle.std.proofs.Common.{◌≡◌, ℕ, ◌<◌, ◌≤◌, take, All, true}
use Rattle.moc_blocks.specs.RangeList.{pixel_count}
use Rattle.moc_ranges.specs.Private.Sorted.{IsSortedFrom}
use Rattle.moc_blocks.specs.Lemmas.Members.{in_ranges}
use Rattle.moc_ranges.proofs.Sorting.{StartsUpTo}
use Rattle.moc_ranges.proofs.from_ranges.sort_nonempty.Given as goal

abbrev pub invariant-loop-pair : goal.invariant-loop-pair
invariant-loop-pair l = record {
  same : (q : ℕ) → in_ranges l.filled.items q ≡ in_ranges (take l.pair-index l.pairs) q;
  good : All (λ pair. (pair.0 < pair.1) × (pair.1 ≤ pixel_count)) l.filled.items;
  ascending : l.ascending ≡ true → IsSortedFrom 0 l.filled.items × StartsUpTo l.last l.filled.items;
}
