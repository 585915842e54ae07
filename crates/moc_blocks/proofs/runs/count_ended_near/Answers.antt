use Rattle.std.proofs.Common.{◌≡◌, take, arith, subst}
use Rattle.moc_blocks.specs.Private.Walks.{all_ranges, EndsBy, EndsAfterAt}
use Rattle.moc_blocks.proofs.Passing.{skip_before, skip_from, skip_between, ended_before, ends_after_at_index}
use Rattle.moc_blocks.proofs.runs.count_ended_near.Goals as goal
use Rattle.moc_blocks.proofs.runs.count_ended_near.Goals.{else-low-gt0-via-then-low-gt0+else-limit-end}
use Rattle.moc_blocks.proofs.runs.count_ended_near.Goals.{else-low-gt0-via-else-low-gt0}
use Rattle.moc_blocks.proofs.runs.count_ended_near.Goals.{else-high-len-via-then-high-len+else-end-limit}
use Rattle.moc_blocks.proofs.runs.count_ended_near.Goals.{else-high-len-via-else-high-len}

pub count_ended_from-requires-clause-there : goal.count_ended_from-requires-clause-there
count_ended_from-requires-clause-there g c =
    skip_before g.T.Run.ranges c.args.runs.now c.args.limit c.min-low.result c.index-runs-low.result
    (omega (arith, c.if-low-gt0.true)) (omega (arith, c.min-low.ensures)) c.index-runs-low.is
    (omega (arith, c.end.ensures.value, c.if-limit-end.true))

pub count_ended_from-requires-then-end-limit-clause-there : goal.count_ended_from-requires-then-end-limit-clause-there
count_ended_from-requires-then-end-limit-clause-there g c =
    skip_from g.T.Run.ranges c.args.runs.now c.args.limit c.min-high.result c.index-runs-high.result c.requires
    (omega (arith, c.if-high-len.true)) c.index-runs-high.is c.end-then-high-len.ensures.some
    (omega (arith, c.end-then-high-len.ensures.value, c.if-end-limit.true))

pub count_ended_from-requires-2-clause-there : goal.count_ended_from-requires-2-clause-there
count_ended_from-requires-2-clause-there g c =
    let low = c.min-low.result in
    let high = c.min-high.result in
    let ended : EndsBy c.args.limit (all_ranges g.T.Run.ranges (take low c.args.runs.now)) = elim c.else-low-gt0.branch [
      | else-low-gt0-via-then-low-gt0+else-limit-end w ↦
          ended_before g.T.Run.ranges c.args.runs.now low c.args.limit w.index-runs-low.result c.requires
          (omega (arith, w.if-low-gt0.true)) (omega (arith, c.min-low.ensures)) w.index-runs-low.is w.end.ensures.some
          (omega (arith, w.end.ensures.value, w.if-limit-end.false))
      | else-low-gt0-via-else-low-gt0 w ↦
          let none : 0 ≡ low = omega (arith, w.if-low-gt0.false) in
          subst (λ k. EndsBy c.args.limit (all_ranges g.T.Run.ranges (take k c.args.runs.now))) none tt
    ] in
    let past : EndsAfterAt g.T.Run.ranges c.args.runs.now c.args.limit high = elim c.else-high-len.branch [
      | else-high-len-via-then-high-len+else-end-limit w ↦
          ends_after_at_index g.T.Run.ranges c.args.runs.now c.args.limit high w.index-runs-high.result w.index-runs-high.is
          (omega (arith, w.end-then-high-len.ensures.value, w.if-end-limit.false))
      | else-high-len-via-else-high-len w ↦ λ run inside. absurd (omega (arith, inside, w.if-high-len.false))
    ] in
    skip_between g.T.Run.ranges c.args.runs.now c.args.limit low high
    (omega (arith, c.min-low.ensures, c.min-high.ensures, c.saturating_sub.ensures, c.saturating_add.ensures)) (omega (arith, c.min-high.ensures)) ended past
