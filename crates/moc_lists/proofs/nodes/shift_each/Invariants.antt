use Rattle.std.proofs.Common.{◌≡◌, ◌++◌, take, drop}
use Rattle.moc_blocks.specs.Private.Blocks.{shift_starts}
use Rattle.moc_lists.proofs.nodes.shift_each.Given as goal

abbrev pub invariant-loop-start : goal.invariant-loop-start
invariant-loop-start l = l.starts ≡ take l.start-index (shift_starts l.less l.more l.fn.starts) ++ drop l.start-index l.fn.starts
