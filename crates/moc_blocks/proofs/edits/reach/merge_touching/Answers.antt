use Rattle.std.proofs.Common.{arith}
use Rattle.moc_blocks.proofs.Blocking.{none_there}
use Rattle.moc_blocks.proofs.Basics.{first_item}
use Rattle.moc_blocks.proofs.Editing.{reaching_step, merged_range_before_next, reach_all}
use Rattle.moc_blocks.proofs.edits.reach.merge_touching.Goals as goal
use Rattle.moc_blocks.proofs.edits.reach.merge_touching.Goals.{in_default, in-len1-up+then-end-range}

pub loop-rest-preserved : goal.loop-rest-preserved
loop-rest-preserved c = reaching_step _ _ _ _ _ _ _ _ (first_item c.loop-rest.rest.now (0, 0) c.in-len1-up.len_at_least) c.loop-rest.invariant (omega (arith, c.if-end-range.false)) c.max-end.ensures

pub returns : goal.returns
returns c = elim c.if-rest-lt1.branch [
  | in_default w ↦ reach_all _ _ _ _ _ (none_there c.loop-rest.rest.now (omega (arith, w.in_default.len_below))) c.loop-rest.invariant
  | in-len1-up+then-end-range w ↦ merged_range_before_next _ _ _ _ _ _ _ (first_item c.loop-rest.rest.now (0, 0) w.in-len1-up.len_at_least) c.loop-rest.invariant (omega (arith, w.if-end-range.true))
]
