use Rattle.std.proofs.Common.{◌<◌, ◌+◌, ◌-◌, ◌/◌, arith, ap, sym, ◌∙◌, length, subst, List, ℕ}
use Rattle.moc_blocks.specs.RangeList.{IsNormal}
use Rattle.moc_blocks.specs.Lemmas.Members.{in_ranges}
use Rattle.moc_blocks.specs.Blocks.{concat}
use Rattle.moc_blocks.proofs.Stepping.{narrow_left, narrow_right, block_left, block_right, only_block_contains, block_ok}
use Rattle.moc_blocks.proofs.Stepping.{no_block_contains, steps_bounded, steps_after_comparison, block_count_bounded}
use Rattle.moc_lists.proofs.steps.find_block.Goals as goal

pub step-requires : goal.step-requires
step-requires c = omega (arith, steps_bounded _ _ _ _ _ _ _ _ c.loop-low.invariant (omega (arith, block_count_bounded (concat c.args.nodes.now) c.requires.stored)), c.requires.capacity)

pub loop-low-preserved-then-pixel-from : goal.loop-low-preserved-then-pixel-from
loop-low-preserved-then-pixel-from c =
    let within = c.loop-low.invariant.within in
    narrow_left _ _ _ c.args.pixel c.loop-low.low c.loop-low.high _ _ c.loop-low.steps _ c.loop-low.invariant c.loop-low-test.true
    (block_left (concat c.args.nodes.now) (c.loop-low.low + (c.loop-low.high - c.loop-low.low) / 2) c.args.pixel c.in-Some.block.now c.requires.stored (omega arith) c.in-Some.ensures.1 (omega (arith, c.if-pixel-from.true, c.from.ensures.value))) c.step.ensures

pub loop-low-preserved : goal.loop-low-preserved
loop-low-preserved c =
    let within = c.loop-low.invariant.within in
    narrow_right _ _ _ c.args.pixel c.loop-low.low c.loop-low.high _ _ c.loop-low.steps _ c.loop-low.invariant c.loop-low-test.true
    (block_right (concat c.args.nodes.now) (c.loop-low.low + (c.loop-low.high - c.loop-low.low) / 2) c.args.pixel c.in-Some.block.now c.requires.stored (omega arith) c.in-Some.ensures.1 (omega (arith, c.if-to-pixel.true, c.to.ensures.value))) c.step.ensures

pub find_range-requires-clause-normal : goal.find_range-requires-clause-normal
find_range-requires-clause-normal c =
    let within = c.loop-low.invariant.within in
    subst IsNormal (sym c.ranges-else-to-pixel.ensures.value) (block_ok (concat c.args.nodes.now) (c.loop-low.low + (c.loop-low.high - c.loop-low.low) / 2) c.in-Some.block.now c.requires.stored (omega arith) c.in-Some.ensures.1).0

pub find_range-requires-clause-fits : goal.find_range-requires-clause-fits
find_range-requires-clause-fits c =
    let within = c.loop-low.invariant.within in
    let ok = block_ok (concat c.args.nodes.now) (c.loop-low.low + (c.loop-low.high - c.loop-low.low) / 2) c.in-Some.block.now c.requires.stored (omega arith) c.in-Some.ensures.1 in
    omega (arith, ap length c.ranges-else-to-pixel.ensures.value, ok.1)

pub find_range-requires-clause-capacity : goal.find_range-requires-clause-capacity
find_range-requires-clause-capacity c =
    let few = block_count_bounded (concat c.args.nodes.now) c.requires.stored in
    let spent = steps_after_comparison _ _ _ _ _ _ _ _ c.loop-low.invariant c.loop-low-test.true 64 (omega arith) in
    omega (arith, spent, c.step.ensures, c.requires.capacity)

pub returns-else-to-pixel-clause-found : goal.returns-else-to-pixel-clause-found
returns-else-to-pixel-clause-found c =
    let within = c.loop-low.invariant.within in
    c.find_range.ensures.found ∙ ap (λ (l : List (ℕ × ℕ)). in_ranges l c.args.pixel) c.ranges-else-to-pixel.ensures.value
    ∙ sym (only_block_contains (concat c.args.nodes.now) (c.loop-low.low + (c.loop-low.high - c.loop-low.low) / 2) c.args.pixel c.in-Some.block.now c.requires.stored (omega arith) c.in-Some.ensures.1 (omega (arith, c.if-pixel-from.false, c.from.ensures.value)) (omega (arith, c.if-to-pixel.false, c.to.ensures.value)))

pub returns-else-to-pixel-clause-cost : goal.returns-else-to-pixel-clause-cost
returns-else-to-pixel-clause-cost c = λ d lt.
    let within = c.loop-low.invariant.within in
    let ok = block_ok (concat c.args.nodes.now) (c.loop-low.low + (c.loop-low.high - c.loop-low.low) / 2) c.in-Some.block.now c.requires.stored (omega arith) c.in-Some.ensures.1 in
    let spent = steps_after_comparison _ _ _ _ _ _ _ _ c.loop-low.invariant c.loop-low-test.true d lt in
    let small : length c.ranges-else-to-pixel.result.now < 256 = omega (arith, ap length c.ranges-else-to-pixel.ensures.value, ok.1) in
    let inner = c.find_range.ensures.cost 8 small in
    omega (arith, spent, inner, c.step.ensures)

pub returns-clause-found : goal.returns-clause-found
returns-clause-found c = sym (no_block_contains (concat c.args.nodes.now) c.args.pixel c.loop-low.low c.loop-low.high _ _ _ c.loop-low.invariant c.loop-low-test.false)
