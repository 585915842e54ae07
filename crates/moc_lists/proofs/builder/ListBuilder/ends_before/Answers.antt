use Rattle.std.proofs.Common.{subst, sym}
use Rattle.moc_blocks.specs.RangeList.{IsNormal}
use Rattle.moc_blocks.proofs.Building.{ranges_normal}
use Rattle.moc_lists.proofs.builder.ListBuilder.ends_before.Goals as goal

pub end_below-requires : goal.end_below-requires
end_below-requires c = subst IsNormal (sym c.deref.ensures.value) (ranges_normal _ _ _ c.self.invariant)
