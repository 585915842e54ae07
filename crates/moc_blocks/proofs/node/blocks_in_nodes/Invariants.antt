use Rattle.std.proofs.Common.{◌≡◌, ◌≤◌, ◌*◌, take, length}
use Rattle.moc_blocks.specs.Blocks.{concat}
use Rattle.moc_blocks.proofs.node.blocks_in_nodes.Given as goal

abbrev pub invariant-loop-node : goal.invariant-loop-node
invariant-loop-node l = (l.total ≡ length (concat (take l.node-index l.nodes))) × (l.total ≤ 16 * l.node-index)
