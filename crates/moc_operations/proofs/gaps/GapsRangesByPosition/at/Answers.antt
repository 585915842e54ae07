use Rattle.std.proofs.Common.{◌∙◌, sym, ap, arith, get_or}
use Rattle.moc_operations.proofs.GapsOf.{gap_at, length_gaps}
use Rattle.moc_operations.proofs.gaps.GapsRangesByPosition.at.Goals as goal

pub low_at-requires : goal.low_at-requires
low_at-requires c = omega (arith, c.requires, length_gaps c.args.self.now.low c.args.self.now.ranges.now)

pub bounds-self-place : goal.bounds-self-place
bounds-self-place c = omega (arith, c.requires, length_gaps c.args.self.now.low c.args.self.now.ranges.now)

pub returns : goal.returns
returns c =
    let gaps = c.args.self.now in
    ap (λ low. (low, (get_or gaps.ranges.now c.args.place (0, 0)).0)) c.low_at.ensures
    ∙ sym (gap_at gaps.low gaps.ranges.now c.args.place (omega (arith, c.requires, length_gaps gaps.low gaps.ranges.now)))
