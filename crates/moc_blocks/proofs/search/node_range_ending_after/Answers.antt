use Rattle.std.proofs.Common.{◌∙◌, ap, sym, subst}
use Rattle.moc_blocks.specs.RangeList.{IsNormal}
use Rattle.moc_blocks.specs.Blocks.{concat}
use Rattle.moc_blocks.proofs.Passing.{all_ranges-nodes, all_ranges-blocks, no_node_ends_after, first_after_in_node, first_after_in_block, no_block_ends_after}
use Rattle.moc_blocks.proofs.Passing.{first_range_after_in_block, first_after_normal}
use Rattle.moc_blocks.proofs.search.node_range_ending_after.Goals as goal

pub first_ending_after-requires : goal.first_ending_after-requires
first_ending_after-requires c = subst IsNormal (sym (all_ranges-nodes c.args.nodes.now)) c.requires

pub returns-in_err-node : goal.returns-in_err-node
returns-in_err-node c = no_node_ends_after c.args.limit c.args.nodes.now c.from_residual.result c.from_residual.ensures c.in_err-node.ensures

pub first_ending_after-requires-2 : goal.first_ending_after-requires-2
first_ending_after-requires-2 c =
    let node = first_after_in_node c.args.limit c.in_ok-node.node.now c.args.nodes.now c.in_ok-node.ensures in
    subst IsNormal (sym (all_ranges-blocks c.blocks-2.result.now ∙ ap concat c.blocks-2.ensures.value)) (first_after_normal c.args.limit _ _ c.requires node)

pub returns-in_err-block : goal.returns-in_err-block
returns-in_err-block c =
    let node = first_after_in_node c.args.limit c.in_ok-node.node.now c.args.nodes.now c.in_ok-node.ensures in
    absurd (no_block_ends_after c.args.limit c.blocks-2.result.now c.in_ok-node.node.now c.args.nodes.now node c.blocks-2.ensures.value c.in_err-block.ensures)

pub range_ending_near-requires : goal.range_ending_near-requires
range_ending_near-requires c =
    let node = first_after_in_node c.args.limit c.in_ok-node.node.now c.args.nodes.now c.in_ok-node.ensures in
    let block = first_after_in_block c.args.limit c.in_ok-block.block.now c.blocks-2.result.now c.in_ok-node.node.now c.args.nodes.now node c.blocks-2.ensures.value c.in_ok-block.ensures in
    subst IsNormal (sym c.ranges-2.ensures.value) (first_after_normal c.args.limit _ _ c.requires block)

pub returns : goal.returns
returns c =
    let node = first_after_in_node c.args.limit c.in_ok-node.node.now c.args.nodes.now c.in_ok-node.ensures in
    let block = first_after_in_block c.args.limit c.in_ok-block.block.now c.blocks-2.result.now c.in_ok-node.node.now c.args.nodes.now node c.blocks-2.ensures.value c.in_ok-block.ensures in
    first_range_after_in_block c.args.limit c.ranges-2.result.now c.in_ok-block.block.now _ c.range_ending_near.result block c.ranges-2.ensures.value c.range_ending_near.ensures
