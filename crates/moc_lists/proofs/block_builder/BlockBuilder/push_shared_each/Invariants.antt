use Rattle.std.proofs.Common.{◌≡◌, ◌++◌, take}
use Rattle.moc_blocks.specs.Blocks.{concat, AreBlocks}
use Rattle.moc_blocks.specs.Private.Built.{AreGrouped}
use Rattle.moc_lists.proofs.block_builder.BlockBuilder.push_shared_each.Given as goal

abbrev pub invariant-loop-block : goal.invariant-loop-block
invariant-loop-block l = AreBlocks (concat l.self.nodes.items ++ l.self.blocks.items) × AreGrouped l.self.nodes.items l.self.blocks.items × (concat (concat l.self.nodes.items ++ l.self.blocks.items) ≡ concat (concat l.initial.self.nodes.items ++ l.initial.self.blocks.items) ++ concat (take l.block-index l.blocks))
