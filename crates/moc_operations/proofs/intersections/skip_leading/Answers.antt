use Rattle.moc_operations.proofs.MeetingOn.{left_normal, meets_left, meets_left_both}
use Rattle.moc_operations.proofs.intersections.skip_leading.Goals as goal

pub returns-then-skip_below-clause-met : goal.returns-then-skip_below-clause-met
returns-then-skip_below-clause-met c = λ kept can. meets_left kept _ _ _ _ can c.next_from.ensures c.skip_below.ensures.out

pub returns-else-skip_below-clause-met : goal.returns-else-skip_below-clause-met
returns-else-skip_below-clause-met c = λ kept can. meets_left_both kept _ _ _ _ _ _ can c.requires.second_normal c.next_from.ensures c.skip_below.ensures.out c.next_from-else-skip_below.ensures c.skip_below-else-skip_below.ensures.out

pub returns-else-skip_below-clause-second_normal : goal.returns-else-skip_below-clause-second_normal
returns-else-skip_below-clause-second_normal c = left_normal _ _ _ c.requires.second_normal c.skip_below-else-skip_below.ensures.out
