use Rattle.std.proofs.Common.{arith, ap, length}
use Rattle.moc_blocks.proofs.Blocking.{concat_length_next}
use Rattle.moc_blocks.proofs.node.blocks_in_nodes.Goals as goal

pub loop-node-preserved : goal.loop-node-preserved
loop-node-preserved c =
    let step = concat_length_next c.args.nodes.now c.loop-node.node-index c.node-item.result c.loop-node-test.true c.node-item.is in
    let blocks = ap length c.blocks-in-loop-node.ensures.value in
    (omega (arith, step, blocks, c.loop-node.invariant.0), omega (arith, blocks, c.blocks-in-loop-node.ensures.fits, c.loop-node.invariant.1))
