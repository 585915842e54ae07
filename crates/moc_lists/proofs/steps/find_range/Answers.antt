use Rattle.std.proofs.Common.{◌+◌, ◌-◌, ◌/◌, arith, sym}
use Rattle.moc_blocks.proofs.Stepping.{narrow_left, narrow_right, range_left, range_right, range_at_index_contains, no_range_contains}
use Rattle.moc_blocks.proofs.Stepping.{steps_bounded}
use Rattle.moc_lists.proofs.steps.find_range.Goals as goal

pub step-requires : goal.step-requires
step-requires c = omega (arith, steps_bounded _ _ _ _ _ _ _ _ c.loop-low.invariant (omega arith), c.requires.capacity)

pub loop-low-preserved-then-pixel-range : goal.loop-low-preserved-then-pixel-range
loop-low-preserved-then-pixel-range c =
    let within = c.loop-low.invariant.within in
    narrow_left _ _ _ c.args.pixel c.loop-low.low c.loop-low.high _ _ c.loop-low.steps _ c.loop-low.invariant c.loop-low-test.true
    (range_left c.args.ranges.now (c.loop-low.low + (c.loop-low.high - c.loop-low.low) / 2) c.args.pixel (0, 0) c.requires.normal (omega arith) c.if-pixel-range.true) c.step.ensures

pub loop-low-preserved : goal.loop-low-preserved
loop-low-preserved c =
    let within = c.loop-low.invariant.within in
    narrow_right _ _ _ c.args.pixel c.loop-low.low c.loop-low.high _ _ c.loop-low.steps _ c.loop-low.invariant c.loop-low-test.true
    (range_right c.args.ranges.now (c.loop-low.low + (c.loop-low.high - c.loop-low.low) / 2) c.args.pixel (0, 0) c.requires.normal (omega arith) c.if-range-pixel.true) c.step.ensures

pub returns-else-range-pixel-clause-found : goal.returns-else-range-pixel-clause-found
returns-else-range-pixel-clause-found c =
    let within = c.loop-low.invariant.within in
    sym (range_at_index_contains c.args.ranges.now (c.loop-low.low + (c.loop-low.high - c.loop-low.low) / 2) c.args.pixel (0, 0) c.requires.normal (omega arith) c.if-pixel-range.false c.if-range-pixel.false)

pub returns-clause-found : goal.returns-clause-found
returns-clause-found c = sym (no_range_contains c.args.ranges.now c.args.pixel c.loop-low.low c.loop-low.high _ _ _ c.loop-low.invariant c.loop-low-test.false)

pub returns-clause-cost : goal.returns-clause-cost
returns-clause-cost c = λ d lt. let s = c.loop-low.invariant.spent d lt in omega (arith, s.1.1)
