use Rattle.std.proofs.lemmas.Result.{IfOk-weaker}
use Rattle.std.proofs.Common.{◌∙◌, arith, ap}
use Rattle.moc_blocks.specs.RangeList.{set_of}
use Rattle.moc_blocks.specs.Private.Built.{ranges_of}
use Rattle.moc_operations.proofs.Walking.{at_both}
use Rattle.moc_operations.proofs.Views.{common_view}
use Rattle.moc_operations.proofs.InCommon.{IsIntersectionStep, intersection_first_empty, intersection_second_empty, intersection_step_after_range, intersection_step_swapped, intersection_taken}
use Rattle.moc_operations.proofs.InCommon.{intersection_swap}
use Rattle.moc_operations.proofs.Shortening.{length_from_current, common_move_shortens}
use Rattle.moc_operations.proofs.intersections.intersection_lists.Goals as goal

pub next_overlapping-requires-clause-after : goal.next_overlapping-requires-clause-after
next_overlapping-requires-clause-after c =
    let s = at_both c.loop-first.first c.loop-first.second c.in-Some.x c.in-Some-second.y c.loop-first.xs c.loop-first.ys (λ xs ys. IsIntersectionStep (ranges_of c.loop-first.built) xs ys c.args.xs c.args.ys) c.in-Some.is c.in-Some-second.is c.loop-first.invariant in
    (intersection_step_after_range _ _ _ _ _ _ c.in-Some.x c.in-Some-second.y s (omega arith) c.in_ok-push_common.ensures.built c.in_ok-push_common.ensures.below c.in_ok-push_common.ensures.same).below

pub next_overlapping-requires-else-x-y-clause-after : goal.next_overlapping-requires-else-x-y-clause-after
next_overlapping-requires-else-x-y-clause-after c =
    let s = at_both c.loop-first.first c.loop-first.second c.in-Some.x c.in-Some-second.y c.loop-first.xs c.loop-first.ys (λ xs ys. IsIntersectionStep (ranges_of c.loop-first.built) xs ys c.args.xs c.args.ys) c.in-Some.is c.in-Some-second.is c.loop-first.invariant in
    (intersection_step_swapped _ _ _ _ _ _ c.in-Some.x c.in-Some-second.y s (omega arith) c.in_ok-push_common.ensures.built c.in_ok-push_common.ensures.below c.in_ok-push_common.ensures.same).below

pub loop-first-preserved-then-x-y : goal.loop-first-preserved-then-x-y
loop-first-preserved-then-x-y c =
    let s = at_both c.loop-first.first c.loop-first.second c.in-Some.x c.in-Some-second.y c.loop-first.xs c.loop-first.ys (λ xs ys. IsIntersectionStep (ranges_of c.loop-first.built) xs ys c.args.xs c.args.ys) c.in-Some.is c.in-Some-second.is c.loop-first.invariant in
    intersection_taken _ _ _ _ _ _ _ c.in-Some-second.y (intersection_step_after_range _ _ _ _ _ _ c.in-Some.x c.in-Some-second.y s (omega arith) c.in_ok-push_common.ensures.built c.in_ok-push_common.ensures.below c.in_ok-push_common.ensures.same) c.in_ok-first.ensures

pub loop-first-preserved : goal.loop-first-preserved
loop-first-preserved c =
    let s = at_both c.loop-first.first c.loop-first.second c.in-Some.x c.in-Some-second.y c.loop-first.xs c.loop-first.ys (λ xs ys. IsIntersectionStep (ranges_of c.loop-first.built) xs ys c.args.xs c.args.ys) c.in-Some.is c.in-Some-second.is c.loop-first.invariant in
    intersection_swap _ _ _ _ _ (intersection_taken _ _ _ _ _ _ _ c.in-Some.x (intersection_step_swapped _ _ _ _ _ _ c.in-Some.x c.in-Some-second.y s (omega arith) c.in_ok-push_common.ensures.built c.in_ok-push_common.ensures.below c.in_ok-push_common.ensures.same) c.in_ok-second.ensures)

pub returns-in_default-second : goal.returns-in_default-second
returns-in_default-second c =
    IfOk-weaker c.finish.result _ _
    (λ written is. ap set_of is ∙ common_view c.args.xs c.args.ys _ (intersection_second_empty _ _ c.loop-first.ys _ _ c.loop-first.second c.loop-first.invariant c.in_default-second.is))
    c.finish.ensures

pub returns : goal.returns
returns c =
    IfOk-weaker c.finish-2.result _ _
    (λ written is. ap set_of is ∙ common_view c.args.xs c.args.ys _ (intersection_first_empty _ c.loop-first.xs _ _ _ c.loop-first.first c.loop-first.invariant c.in_default.is))
    c.finish-2.ensures

pub loop-first-smaller-then-x-y : goal.loop-first-smaller-then-x-y
loop-first-smaller-then-x-y c = omega (arith, length_from_current _ _ c.loop-first.xs c.in-Some.is, length_from_current _ _ c.loop-first.ys c.in-Some-second.is, common_move_shortens c.in_ok-first.ensures)

pub loop-first-smaller : goal.loop-first-smaller
loop-first-smaller c = omega (arith, length_from_current _ _ c.loop-first.xs c.in-Some.is, length_from_current _ _ c.loop-first.ys c.in-Some-second.is, common_move_shortens c.in_ok-second.ensures)
