use Rattle.std.proofs.Common.{◌≡◌, take}
use Rattle.moc_blocks.specs.Private.Blocks.{width_of}
use Rattle.moc_blocks.specs.Blocks.{concat}
use Rattle.moc_blocks.proofs.node.width_of_blocks.Given as goal

abbrev pub invariant-loop-block : goal.invariant-loop-block
invariant-loop-block l = l.total ≡ width_of (concat (take l.block-index l.blocks))
