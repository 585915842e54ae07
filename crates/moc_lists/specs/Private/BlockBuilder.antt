-- A builder of nodes: nodes, and blocks that are not in a node yet.
use Rattle.std.specs.Prelude.{ℕ, List, ◌++◌}
use Rattle.moc_lists.specs.declared.block_builder.BlockBuilder.{BlockBuilder}
use Rattle.moc_blocks.specs.Blocks.{concat}
use Rattle.moc_blocks.specs.Private.Built.{AreGrouped}

-- all blocks of the builder
abbrev pub blocks_of : BlockBuilder → List (List (ℕ × ℕ))
blocks_of b = concat b.nodes.items ++ b.blocks.items

-- the nodes keep the fill rule, and the blocks that are not in a node yet fit into one
abbrev pub AreNodesFilled : BlockBuilder → Type 0
AreNodesFilled b = AreGrouped b.nodes.items b.blocks.items
