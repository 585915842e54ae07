use Rattle.std.proofs.Common.{◌≡◌, take, length}
use Rattle.moc_blocks.specs.Blocks.{concat}
use Rattle.moc_blocks.proofs.node.count_in_blocks.Given as goal

abbrev pub invariant-loop-block : goal.invariant-loop-block
invariant-loop-block l = l.total ≡ length (concat (take l.block-index l.blocks))
