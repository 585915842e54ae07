use Rattle.std.proofs.Common.{◌-◌, List, ℕ, take, arith, subst, sym}
use Rattle.moc_blocks.specs.RangeList.{IsNormal}
use Rattle.moc_blocks.specs.Private.Walks.{EndsBy}
use Rattle.moc_blocks.proofs.Passing.{all_ranges-ranges, last_ends_by}
use Rattle.moc_blocks.proofs.runs.split_below.Goals as goal

pub count_ended-count-requires : goal.count_ended-count-requires
count_ended-count-requires c = subst IsNormal (sym (all_ranges-ranges c.args.ranges.now)) c.requires

pub returns-clause-below : goal.returns-clause-below
returns-clause-below c =
    let first = take c.count_ended-count.result c.args.ranges.now in
    let ended = subst (λ (l : List (ℕ × ℕ)). EndsBy (c.args.limit - 1) l) (all_ranges-ranges first) c.count_ended-count.ensures.ended in
    omega (arith, last_ends_by (c.args.limit - 1) first ended, c.if-limit-range.false)
