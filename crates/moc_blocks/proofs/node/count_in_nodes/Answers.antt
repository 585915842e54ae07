use Rattle.std.proofs.Common.{arith, ◌∙◌}
use Rattle.moc_blocks.proofs.Blocking.{length_node_step, node_lengths_complete}
use Rattle.moc_blocks.proofs.node.count_in_nodes.Goals as goal

pub overflow_add-total : goal.overflow_add-total
overflow_add-total c =
    let step = length_node_step c.args.nodes.now c.loop-node.node-index c.node-item.result c.requires c.loop-node-test.true c.node-item.is in
    omega (arith, step.1, c.count-total.ensures.value, c.loop-node.invariant)

pub loop-node-preserved : goal.loop-node-preserved
loop-node-preserved c =
    let step = length_node_step c.args.nodes.now c.loop-node.node-index c.node-item.result c.requires c.loop-node-test.true c.node-item.is in
    omega (arith, step.0, c.count-total.ensures.value, c.loop-node.invariant)

pub returns : goal.returns
returns c = c.loop-node.invariant ∙ node_lengths_complete c.args.nodes.now c.loop-node.node-index c.loop-node-test.false
