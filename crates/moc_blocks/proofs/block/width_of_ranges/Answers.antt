use Rattle.std.proofs.Common.{arith, ℕ, ◌-◌}
use Rattle.std.proofs.lemmas.List.Sums.{sum_by_more_le}
use Rattle.moc_blocks.proofs.Blocking.{range_at, width_bounded}
use Rattle.moc_blocks.proofs.block.width_of_ranges.Goals as goal

pub overflow_sub-total : goal.overflow_sub-total
overflow_sub-total c = omega (arith, range_at c.args.ranges.now c.loop-range.range-index (0, 0) c.requires c.loop-range-test.true)

pub overflow_add-total : goal.overflow_add-total
overflow_add-total c =
    let some = sum_by_more_le (λ (range : ℕ × ℕ). range.1 - range.0) c.args.ranges.now c.loop-range.range-index (0, 0) c.loop-range-test.true in
    omega (arith, width_bounded c.args.ranges.now c.requires, c.loop-range.invariant)
