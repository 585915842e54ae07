use Rattle.moc_blocks.proofs.Building.{builder_state_of_prefix}
use Rattle.moc_lists.proofs.builder.ListBuilder.pop.Goals as goal

pub invariant_of-self : goal.invariant_of-self
invariant_of-self c = builder_state_of_prefix _ _ _ _ _ c.self.invariant c.pop.ensures.items
