use Rattle.std.proofs.Common.{arith, ◌∙◌}
use Rattle.moc_blocks.proofs.Blocking.{count_step, width_complete}
use Rattle.moc_blocks.proofs.node.width_of_blocks.Goals as goal

pub overflow_add-total : goal.overflow_add-total
overflow_add-total c =
    let step = count_step c.args.blocks.now c.loop-block.block-index c.block-item.result c.requires c.loop-block-test.true c.block-item.is in
    omega (arith, step.1, c.size-total.ensures.value, c.loop-block.invariant)

pub loop-block-preserved : goal.loop-block-preserved
loop-block-preserved c =
    let step = count_step c.args.blocks.now c.loop-block.block-index c.block-item.result c.requires c.loop-block-test.true c.block-item.is in
    omega (arith, step.0, c.size-total.ensures.value, c.loop-block.invariant)

pub returns : goal.returns
returns c = c.loop-block.invariant ∙ width_complete c.args.blocks.now c.loop-block.block-index c.loop-block-test.false
