use Rattle.std.proofs.Common.{◌∙◌, arith, refl, sym, get_or, ap}
use Rattle.std.proofs.lemmas.Result.{IfOk-weaker}
use Rattle.moc_blocks.specs.RangeList.{set_of}
use Rattle.moc_blocks.proofs.Blocking.{none_there}
use Rattle.moc_blocks.proofs.Basics.{first_item}
use Rattle.moc_operations.proofs.Views.{common_view}
use Rattle.moc_operations.proofs.Slices.{intersection_of_slices_swap, intersection_of_slices_by_equality, intersection_of_slices_after_range, intersection_of_slices_first_empty, intersection_of_slices_second_empty}
use Rattle.moc_operations.proofs.slice.intersection_slices.Goals as goal

pub returns-in_default : goal.returns-in_default
returns-in_default c =
    let none = none_there c.loop-rest_xs.rest_xs.now (omega (arith, c.in_default.len_below)) in
    IfOk-weaker c.list_from_ranges.result _ _ (λ written is. ap set_of is ∙ common_view c.args.xs.now c.args.ys.now _ (intersection_of_slices_first_empty _ _ _ _ _ c.loop-rest_xs.invariant none)) c.list_from_ranges.ensures

pub returns-in_default-rest_ys : goal.returns-in_default-rest_ys
returns-in_default-rest_ys c =
    let none = none_there c.loop-rest_xs.rest_ys.now (omega (arith, c.in_default-rest_ys.len_below)) in
    IfOk-weaker c.list_from_ranges-in_default-rest_ys.result _ _ (λ written is. ap set_of is ∙ common_view c.args.xs.now c.args.ys.now _ (intersection_of_slices_second_empty _ _ _ _ _ c.loop-rest_xs.invariant none)) c.list_from_ranges-in_default-rest_ys.ensures

pub loop-rest_xs-preserved-then-x-y : goal.loop-rest_xs-preserved-then-x-y
loop-rest_xs-preserved-then-x-y c =
    let x = get_or c.loop-rest_xs.rest_xs.now 0 (0, 0) in
    let y = get_or c.loop-rest_xs.rest_ys.now 0 (0, 0) in
    let first = first_item c.loop-rest_xs.rest_xs.now (0, 0) c.in-len1-up.len_at_least in
    let second = first_item c.loop-rest_xs.rest_ys.now (0, 0) c.in-len1-up-rest_ys.len_at_least in
    let s = intersection_of_slices_by_equality _ _ _ _ _ _ _ c.loop-rest_xs.invariant first second in
    intersection_of_slices_by_equality _ _ _ _ _ _ _ (intersection_of_slices_after_range _ _ _ _ _ _ x y c.max.result c.min.result s c.if-x-y.true c.max.ensures c.min.ensures c.in_ok-push_if_nonempty.ensures.normal c.in_ok-push_if_nonempty.ensures.below c.in_ok-push_if_nonempty.ensures.same) refl (sym second)

pub loop-rest_xs-preserved : goal.loop-rest_xs-preserved
loop-rest_xs-preserved c =
    let x = get_or c.loop-rest_xs.rest_xs.now 0 (0, 0) in
    let y = get_or c.loop-rest_xs.rest_ys.now 0 (0, 0) in
    let first = first_item c.loop-rest_xs.rest_xs.now (0, 0) c.in-len1-up.len_at_least in
    let second = first_item c.loop-rest_xs.rest_ys.now (0, 0) c.in-len1-up-rest_ys.len_at_least in
    let s = intersection_of_slices_swap _ _ _ _ _ (intersection_of_slices_by_equality _ _ _ _ _ _ _ c.loop-rest_xs.invariant first second) in
    intersection_of_slices_by_equality _ _ _ _ _ _ _ (intersection_of_slices_swap _ _ _ _ _ (intersection_of_slices_after_range _ _ _ _ _ _ y x c.max.result c.min.result s (omega (arith, c.if-x-y.false)) (omega (arith, c.max.ensures)) (omega (arith, c.min.ensures)) c.in_ok-push_if_nonempty.ensures.normal c.in_ok-push_if_nonempty.ensures.below c.in_ok-push_if_nonempty.ensures.same)) (sym first) refl
