use Rattle.std.proofs.Common.{◌≡◌, ◌++◌, take}
use Rattle.moc_blocks.proofs.edits.rebuild.push_shared.Given as goal

abbrev pub invariant-loop-block : goal.invariant-loop-block
invariant-loop-block l = l.blocks.items ≡ l.fn.blocks.items ++ take l.block-index l.more
