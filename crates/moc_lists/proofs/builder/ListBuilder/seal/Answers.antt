use Rattle.std.proofs.Common.{◌++◌, List, ℕ, ap, sym, subst}
use Rattle.moc_blocks.specs.RangeList.{IsNormal}
use Rattle.moc_blocks.proofs.Building.{ranges_normal, builder_state_of_prefix}
use Rattle.moc_lists.proofs.builder.ListBuilder.seal.Goals as goal

pub new-requires-clause-normal : goal.new-requires-clause-normal
new-requires-clause-normal c = subst IsNormal (sym c.in_ok-ranges.ensures.popped) (ranges_normal _ _ _ c.self.invariant)

pub invariant_of-self-in_err-block : goal.invariant_of-self-in_err-block
invariant_of-self-in_err-block c = builder_state_of_prefix _ _ _ _ c.self.inside.ranges.items c.self.invariant (ap (λ (l : List (ℕ × ℕ)). l ++ c.self.inside.ranges.items) (sym c.in_ok-ranges.ensures.none))
