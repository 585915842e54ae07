use Rattle.moc_blocks.proofs.Blocking.{IsNormal-prefix, IsNormal-rest}
use Rattle.moc_lists.proofs.ranges.Ranges.take_ranges_below.Goals as goal

pub split_below-requires : goal.split_below-requires
split_below-requires c = IsNormal-prefix c.self.inside.ranges.now _ c.self.invariant

pub invariant_of-self : goal.invariant_of-self
invariant_of-self c = IsNormal-rest c.self.inside.ranges.now c.in_ok-leading.leading.first.now c.in_ok-leading.leading.rest.now _ c.in_ok-leading.ensures.parts c.self.invariant
