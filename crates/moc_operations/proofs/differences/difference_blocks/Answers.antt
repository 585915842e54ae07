use Rattle.std.proofs.Common.{◌≡◌, ◌⊎◌, [], Bool, subst, ap, arith}
use Rattle.std.proofs.lemmas.Result.{IfOk-weaker}
use Rattle.std.specs.Bool.{OnFalse}
use Rattle.moc_blocks.specs.Private.Built.{ranges_of}
use Rattle.moc_operations.proofs.GapsOf.{ascending_gaps, can_end, difference_of_common_gaps}
use Rattle.moc_operations.proofs.MeetingOn.{meets_start, meets_more}
use Rattle.moc_operations.proofs.Views.{first_only_view}
use Rattle.moc_operations.proofs.differences.difference_blocks.Goals as goal

pub loop-built-init : goal.loop-built-init
loop-built-init c = record {
  met = meets_start c.args.xs _ _ (ap ranges_of c.in_ok-built.ensures) c.requires.xs (ascending_gaps 0 c.args.ys c.requires.ys (omega arith));
  second_normal = c.requires.ys;
}

pub finish_difference-requires : goal.finish_difference-requires
finish_difference-requires c = can_end _ _ c.subtract_block.new.ys _ c.in_ok-met.ensures.met.can c.in_ok-met.ensures.second_normal

pub returns-then-not-met : goal.returns-then-not-met
returns-then-not-met c =
    let m = meets_more _ _ _ _ _ _ _ _ _ c.loop-built.invariant.met (meets_more _ _ _ _ _ _ _ _ _ c.in_ok-align_lists.ensures.met c.in_ok-met.ensures.met) in
    let ended = subst (λ (t : Bool). OnFalse t ((c.subtract_block.new.xs ≡ []) ⊎ (c.subtract_block.new.ys ≡ []))) c.if-not-met.true c.in_ok-met.ensures.none in
    IfOk-weaker c.finish_difference.result _ _
    (λ written is. first_only_view c.args.xs c.args.ys written (difference_of_common_gaps _ written _ _ _ _ _ c.requires.xs c.requires.ys m ended is)) c.finish_difference.ensures

pub loop-built-preserved : goal.loop-built-preserved
loop-built-preserved c = record {
  met = meets_more _ _ _ _ _ _ _ _ _ c.loop-built.invariant.met (meets_more _ _ _ _ _ _ _ _ _ c.in_ok-align_lists.ensures.met c.in_ok-met.ensures.met);
  second_normal = c.in_ok-met.ensures.second_normal;
}
