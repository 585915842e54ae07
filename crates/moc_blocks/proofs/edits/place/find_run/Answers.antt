use Rattle.std.proofs.Common.{arith, subst, take}
use Rattle.moc_blocks.specs.Private.Walks.{all_ranges, EndsBy}
use Rattle.moc_blocks.proofs.Editing.{around_at}
use Rattle.moc_blocks.proofs.edits.place.find_run.Goals as goal

pub returns : goal.returns
returns g c =
    let first = take c.count_ended-ended.result c.args.runs.now in
    let ended = subst (λ n. EndsBy n (all_ranges g.T.Run.ranges first)) c.saturating_sub.ensures c.count_ended-ended.ensures.ended in
    around_at g.T.Run.ranges c.args.runs.now c.args.from c.min-place.result c.count_ended-ended.result c.run-item.result c.requires (omega (arith, c.min-place.ensures)) ended c.in-len1-up.len_at_least c.run-item.is
