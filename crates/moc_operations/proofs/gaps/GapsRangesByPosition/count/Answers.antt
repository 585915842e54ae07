use Rattle.std.proofs.Common.{sym}
use Rattle.moc_operations.proofs.GapsOf.{length_gaps}
use Rattle.moc_operations.proofs.gaps.GapsRangesByPosition.count.Goals as goal

pub returns : goal.returns
returns c = sym (length_gaps c.args.self.now.low c.args.self.now.ranges.now)
