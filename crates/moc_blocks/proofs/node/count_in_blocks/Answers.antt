use Rattle.std.proofs.Common.{arith, ◌∙◌, ap, length}
use Rattle.moc_blocks.proofs.Blocking.{length_step, length_complete}
use Rattle.moc_blocks.proofs.node.count_in_blocks.Goals as goal

pub overflow_add-total : goal.overflow_add-total
overflow_add-total c =
    let step = length_step c.args.blocks.now c.loop-block.block-index c.block-item.result c.requires c.loop-block-test.true c.block-item.is in
    omega (arith, step.1, ap length c.ranges-in-loop-block.ensures.value, c.loop-block.invariant)

pub loop-block-preserved : goal.loop-block-preserved
loop-block-preserved c =
    let step = length_step c.args.blocks.now c.loop-block.block-index c.block-item.result c.requires c.loop-block-test.true c.block-item.is in
    omega (arith, step.0, ap length c.ranges-in-loop-block.ensures.value, c.loop-block.invariant)

pub returns : goal.returns
returns c = c.loop-block.invariant ∙ length_complete c.args.blocks.now c.loop-block.block-index c.loop-block-test.false
