use Rattle.std.proofs.Common.{subst, sym}
use Rattle.moc_blocks.specs.RangeList.{IsNormal}
use Rattle.moc_lists.proofs.ranges.Ranges.enter_block.Goals as goal

pub resume-requires : goal.resume-requires
resume-requires c = subst IsNormal (sym c.in-Some.ensures.0) c.requires
