use Rattle.std.proofs.Common.{◌≡◌, ◌⊎◌, List, ℕ, [], Bool, subst, sym, ap, ◌∙◌}
use Rattle.std.proofs.lemmas.Result.{IfOk-weaker}
use Rattle.std.specs.Bool.{OnFalse}
use Rattle.moc_blocks.specs.RangeList.{set_of}
use Rattle.moc_blocks.specs.Private.Built.{ranges_of}
use Rattle.moc_operations.specs.Private.Meeting.{CanIntersect, Intersects}
use Rattle.moc_operations.proofs.InCommon.{ascending_of_normal}
use Rattle.moc_operations.proofs.MeetingOn.{meets_start, meets_more, meets_swap, can_swap, intersection_complete}
use Rattle.moc_operations.proofs.Views.{common_view}
use Rattle.moc_operations.proofs.intersections.intersection_blocks.Goals as goal

pub loop-built-init : goal.loop-built-init
loop-built-init c = record {
  met = meets_start c.args.xs c.args.ys _ (ap ranges_of c.in_ok-built.ensures) c.requires.xs (ascending_of_normal c.args.ys c.requires.ys);
  second_normal = c.requires.ys;
}

pub returns-then-not-met : goal.returns-then-not-met
returns-then-not-met c =
    let m = meets_more _ _ _ _ _ _ _ _ _ c.loop-built.invariant.met c.in_ok-met.ensures.met in
    let ended = subst (λ (t : Bool). OnFalse t ((c.intersect_next.new.xs ≡ []) ⊎ (c.intersect_next.new.ys ≡ []))) c.if-not-met.true c.in_ok-met.ensures.none in
    IfOk-weaker c.finish.result _ _
    (λ written is. ap set_of is ∙ common_view c.args.xs c.args.ys _ (intersection_complete _ _ _ _ _ m ended)) c.finish.ensures

pub push_whole_common-requires-in-loop-built-clause-can : goal.push_whole_common-requires-in-loop-built-clause-can
push_whole_common-requires-in-loop-built-clause-can c =
    subst (λ (l : List (ℕ × ℕ)). CanIntersect c.intersect_next.new.ys l (ranges_of c.push_whole_common.new.built)) (sym c.enter_block.ensures)
    (can_swap _ _ _ c.in_ok-push_whole_common.ensures.met.can c.in_ok-met.ensures.second_normal)

pub loop-built-preserved : goal.loop-built-preserved
loop-built-preserved c =
    let second = c.in_ok-push_whole_common-2.ensures.met in
    let m = meets_more _ _ _ _ _ _ _ _ _ c.loop-built.invariant.met (meets_more _ _ _ _ _ _ _ _ _ c.in_ok-met.ensures.met c.in_ok-push_whole_common.ensures.met) in
    let begun = subst (λ (l : List (ℕ × ℕ)). Intersects c.args.xs l c.args.ys c.intersect_next.new.ys [] (ranges_of c.push_whole_common.new.built)) (sym c.enter_block.ensures) m in
    record {
      met = meets_more _ _ _ _ _ _ _ _ _ begun (meets_swap _ _ _ _ _ _ second begun.can.first_normal);
      second_normal = second.can.first_normal;
    }
