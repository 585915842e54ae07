use Rattle.std.proofs.Common.{arith, subst, sym}
use Rattle.moc_blocks.specs.RangeList.{IsNormal}
use Rattle.moc_blocks.proofs.Passing.{normal_blocks, normal_nodes, skip_blocks_then_nodes, skip_next_block, skip_normal, skip_bounded}
use Rattle.moc_blocks.proofs.runs.skip_blocks.Goals as goal

pub skip_runs-current-requires-clause-normal : goal.skip_runs-current-requires-clause-normal
skip_runs-current-requires-clause-normal c = normal_blocks c.args.cursor.blocks.now c.args.cursor.nodes.now c.requires.normal

pub skip_runs-nodes-requires-clause-normal : goal.skip_runs-nodes-requires-clause-normal
skip_runs-nodes-requires-clause-normal c = normal_nodes c.args.cursor.blocks.now c.args.cursor.nodes.now c.requires.normal

pub skip_runs-blocks-requires-clause-normal : goal.skip_runs-blocks-requires-clause-normal
skip_runs-blocks-requires-clause-normal c =
    let passed = skip_blocks_then_nodes c.args.range c.args.cursor.blocks.now _ c.args.cursor.nodes.now c.skip_runs-nodes.result.rest.now _ _ c.skip_runs-current.ensures c.in-empty.len_below c.skip_runs-nodes.ensures in
    normal_blocks c.enter_node-next.result.blocks.now c.enter_node-next.result.nodes.now (subst IsNormal (sym c.enter_node-next.ensures.same) (skip_normal c.args.range _ _ _ c.requires.normal passed))

pub overflow_add-result : goal.overflow_add-result
overflow_add-result c =
    let passed = skip_blocks_then_nodes c.args.range c.args.cursor.blocks.now _ c.args.cursor.nodes.now c.skip_runs-nodes.result.rest.now _ _ c.skip_runs-current.ensures c.in-empty.len_below c.skip_runs-nodes.ensures in
    omega (arith, skip_bounded c.args.range _ _ _ c.requires.normal passed)

pub overflow_add-result-2 : goal.overflow_add-result-2
overflow_add-result-2 c =
    let passed = skip_blocks_then_nodes c.args.range c.args.cursor.blocks.now _ c.args.cursor.nodes.now c.skip_runs-nodes.result.rest.now _ _ c.skip_runs-current.ensures c.in-empty.len_below c.skip_runs-nodes.ensures in
    let all = skip_next_block c.args.range _ _ c.enter_node-next.result.blocks.now c.skip_runs-blocks.result.rest.now c.enter_node-next.result.nodes.now _ _ passed c.enter_node-next.ensures.same c.skip_runs-blocks.ensures in
    omega (arith, skip_bounded c.args.range _ _ _ c.requires.normal all)

pub returns : goal.returns
returns c =
    let passed = skip_blocks_then_nodes c.args.range c.args.cursor.blocks.now _ c.args.cursor.nodes.now c.skip_runs-nodes.result.rest.now _ _ c.skip_runs-current.ensures c.in-empty.len_below c.skip_runs-nodes.ensures in
    skip_next_block c.args.range _ _ c.enter_node-next.result.blocks.now c.skip_runs-blocks.result.rest.now c.enter_node-next.result.nodes.now _ _ passed c.enter_node-next.ensures.same c.skip_runs-blocks.ensures
