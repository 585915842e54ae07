use Rattle.std.proofs.Common.{subst, List, ℕ, ◌∷◌}
use Rattle.moc_ranges.specs.Private.CellCounts.{AreCellCounts, IsCounting}
use Rattle.moc_ranges.proofs.CellCounts.{all_counted, count_fits, counts_are, none_counted, range_counted, total_bounded, total_is}
use Rattle.moc_ranges.proofs.coverage.Coverage.cell_count_by_order.Goals as goal
use Rattle.moc_ranges.proofs.coverage.Coverage.cell_count_by_order.Goals.{In-Some, In-None}

-- the ranges that remain are the next one and those after it
next_range : (c : In-Some) → IsCounting c.args.self.now ((c.in-Some.from, c.in-Some.to) ∷ c.next.new.self) c.loop-from.counts
next_range c = subst (λ (rs : List (ℕ × ℕ)). IsCounting c.args.self.now rs c.loop-from.counts) c.in-Some.ensures.steps c.loop-from.invariant.counting

pub loop-from-init : goal.loop-from-init
loop-from-init c = record {
  continues = (tt, tt);
  counting = rw c.into_iter-from-iterator.ensures.into_iter_gives (none_counted c.args.self.now c.ranges-from-items.result c.ranges-from-items.ensures.set c.ranges-from-items.ensures.normal);
}

pub add_cells-requires-clause-ascending : goal.add_cells-requires-clause-ascending
add_cells-requires-clause-ascending c = (next_range (goal.at.add_cells-requires-clause-ascending c).In-Some).normal.0

pub add_cells-requires-clause-within : goal.add_cells-requires-clause-within
add_cells-requires-clause-within c = (next_range (goal.at.add_cells-requires-clause-within c).In-Some).normal.1

pub add_cells-requires-clause-capacity : goal.add_cells-requires-clause-capacity
add_cells-requires-clause-capacity c = count_fits c.args.self.now (c.in-Some.from, c.in-Some.to) c.next.new.self c.loop-from.counts (next_range (goal.at.add_cells-requires-clause-capacity c).In-Some)

pub loop-from-preserved : goal.loop-from-preserved
loop-from-preserved c = record {
  continues = (tt, tt);
  counting = range_counted c.args.self.now (c.in-Some.from, c.in-Some.to) c.next.new.self c.loop-from.counts c.add_cells.new.counts (next_range (goal.at.loop-from-preserved c).In-Some) c.add_cells.ensures;
}

-- at the end all ranges are counted
are_counts : (c : In-None) → AreCellCounts c.args.self.now c.loop-from.counts
are_counts c = all_counted c.args.self.now c.loop-from.counts (subst (λ (rs : List (ℕ × ℕ)). IsCounting c.args.self.now rs c.loop-from.counts) c.in-None.ensures.steps.0 c.loop-from.invariant.counting)

pub returns-clause-counts : goal.returns-clause-counts
returns-clause-counts c = counts_are c.args.self.now c.loop-from.counts (are_counts (goal.at.returns-clause-counts c).In-None)

pub returns-clause-total : goal.returns-clause-total
returns-clause-total c = total_is c.args.self.now c.loop-from.counts (are_counts (goal.at.returns-clause-total c).In-None)

pub returns-clause-bounded : goal.returns-clause-bounded
returns-clause-bounded c = total_bounded c.args.self.now c.loop-from.counts (are_counts (goal.at.returns-clause-bounded c).In-None)
