use Rattle.std.proofs.Common.{subst}
use Rattle.moc_blocks.specs.RangeList.{IsNormal}
use Rattle.moc_blocks.specs.Blocks.{concat}
use Rattle.moc_blocks.proofs.Blocking.{IsNormal-suffix}
use Rattle.moc_lists.proofs.ranges.Ranges.take_node_below.Goals as goal

pub invariant_of-self : goal.invariant_of-self
invariant_of-self c = IsNormal-suffix (concat c.in_ok-whole.whole.node.now) _ (subst IsNormal c.in_ok-whole.ensures.parts c.self.invariant)
