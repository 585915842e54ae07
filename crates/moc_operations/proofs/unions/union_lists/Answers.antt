use Rattle.std.proofs.Common.{◌∙◌, arith, ap}
use Rattle.std.proofs.lemmas.Result.{IfOk-weaker}
use Rattle.moc_blocks.specs.RangeList.{set_of}
use Rattle.moc_operations.proofs.Merging.{none_next, union_complete, uniting_first, uniting_second}
use Rattle.moc_operations.proofs.Turning.{uniting_both}
use Rattle.moc_operations.proofs.Views.{union_view}
use Rattle.moc_operations.proofs.Shortening.{over_shorter}
use Rattle.moc_operations.proofs.unions.union_lists.Goals as goal

pub returns-then-x : goal.returns-then-x
returns-then-x c =
    let s = uniting_both _ _ _ _ _ _ _ _ c.loop-built.invariant c.in_ok-merge_blocks.ensures in
    let no_first = none_next _ s.first_normal (omega arith) in
    let no_second = none_next _ s.second_normal (omega arith) in
    IfOk-weaker c.finish.result _ _
    (λ written is. ap set_of is ∙ union_view c.args.xs c.args.ys _ (union_complete _ _ _ _ _ s no_first no_second)) c.finish.ensures

pub loop-built-preserved-in-Continue-branch-3 : goal.loop-built-preserved-in-Continue-branch-3
loop-built-preserved-in-Continue-branch-3 c =
    uniting_first _ _ _ _ _ _ _ _
    (uniting_both _ _ _ _ _ _ _ _ c.loop-built.invariant c.in_ok-merge_blocks.ensures) c.next_from-y.ensures c.in_ok-move_next.ensures

pub loop-built-preserved : goal.loop-built-preserved
loop-built-preserved c =
    uniting_second _ _ _ _ _ _ _ _
    (uniting_both _ _ _ _ _ _ _ _ c.loop-built.invariant c.in_ok-merge_blocks.ensures) c.next_from-x.ensures c.in_ok-move_next-2.ensures

pub loop-built-smaller-in-Continue-branch-3 : goal.loop-built-smaller-in-Continue-branch-3
loop-built-smaller-in-Continue-branch-3 c = omega (arith, c.in_ok-merge_blocks.ensures.fewer, over_shorter c.in_ok-move_next.ensures)

pub loop-built-smaller : goal.loop-built-smaller
loop-built-smaller c = omega (arith, c.in_ok-merge_blocks.ensures.fewer, over_shorter c.in_ok-move_next-2.ensures)
