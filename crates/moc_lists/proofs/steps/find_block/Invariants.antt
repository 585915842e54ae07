use Rattle.std.proofs.Common.{length, take, drop, ◌-◌}
use Rattle.moc_blocks.specs.Blocks.{concat}
use Rattle.moc_blocks.proofs.Stepping.{IsNarrowed}
use Rattle.moc_lists.proofs.steps.find_block.Given as goal

abbrev pub invariant-loop-low : goal.invariant-loop-low
invariant-loop-low l = IsNarrowed (concat (take l.low (concat l.nodes))) (concat (drop l.high (concat l.nodes))) l.pixel l.low l.high (length (concat l.nodes)) l.fn.steps l.steps

abbrev pub decreases-loop-low : goal.decreases-loop-low
decreases-loop-low l = l.high - l.low
