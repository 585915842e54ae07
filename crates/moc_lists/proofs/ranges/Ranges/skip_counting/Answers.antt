use Rattle.std.proofs.Common.{◌∙◌, subst, sym}
use Rattle.moc_blocks.specs.RangeList.{IsNormal}
use Rattle.moc_blocks.proofs.Passing.{skip_normal}
use Rattle.moc_lists.proofs.ranges.Ranges.skip_counting.Goals as goal

pub invariant_of-self : goal.invariant_of-self
invariant_of-self c =
    skip_normal c.args.range _ _ _ (subst IsNormal (c.self.view_is ∙ sym c.current.ensures) c.self.invariant) c.skip_ranges-passed.ensures
