use Rattle.std.proofs.Common.{◌∙◌, arith, get_or, ap}
use Rattle.std.proofs.lemmas.Result.{IfOk-weaker}
use Rattle.moc_blocks.specs.RangeList.{set_of}
use Rattle.moc_blocks.proofs.Blocking.{none_there}
use Rattle.moc_blocks.proofs.Basics.{first_item}
use Rattle.moc_operations.proofs.Views.{first_only_view}
use Rattle.moc_operations.proofs.Slices.{difference_of_slices_by_equality, difference_of_slices_after_cut, difference_of_slices_after_range, difference_of_slices_complete, difference_of_slices_with_rest}
use Rattle.moc_operations.proofs.Slices.{difference_of_slices_normal, difference_of_empty, difference_of_slices_start}
use Rattle.moc_operations.proofs.slice.difference_slices.Goals as goal

pub returns-in_default : goal.returns-in_default
returns-in_default c =
    let none = none_there c.args.xs.now (omega (arith, c.in_default.len_below)) in
    IfOk-weaker c.list_from_ranges.result _ _ (λ written is. ap set_of is ∙ first_only_view c.args.xs.now c.args.ys.now _ (difference_of_empty _ _ _ c.in_ok-kept.ensures.items none)) c.list_from_ranges.ensures

pub finish-requires : goal.finish-requires
finish-requires c = difference_of_slices_normal _ _ _ _ _ c.loop-rest_ys.invariant

pub returns-in_default-rest_ys : goal.returns-in_default-rest_ys
returns-in_default-rest_ys c =
    let none = none_there c.loop-rest_ys.rest_ys.now (omega (arith, c.in_default-rest_ys.len_below)) in
    IfOk-weaker c.finish.result _ _ (λ written is. ap set_of is ∙ first_only_view c.args.xs.now c.args.ys.now _ (difference_of_slices_with_rest _ _ _ _ _ c.loop-rest_ys.invariant none)) c.finish.ensures

pub loop-rest_ys-preserved-then-y-x : goal.loop-rest_ys-preserved-then-y-x
loop-rest_ys-preserved-then-y-x c =
    let y = get_or c.loop-rest_ys.rest_ys.now 0 (0, 0) in
    let second = first_item c.loop-rest_ys.rest_ys.now (0, 0) c.in-len1-up-rest_ys.len_at_least in
    difference_of_slices_after_cut _ _ _ _ _ _ _ c.loop-rest_ys.x y c.min.result c.max.result c.loop-rest_ys.invariant second c.if-y-x.true c.min.ensures c.max.ensures c.in_ok-push_if_nonempty.ensures.normal c.in_ok-push_if_nonempty.ensures.below c.in_ok-push_if_nonempty.ensures.same

pub returns-in_default-rest_xs : goal.returns-in_default-rest_xs
returns-in_default-rest_xs c =
    let y = get_or c.loop-rest_ys.rest_ys.now 0 (0, 0) in
    let second = first_item c.loop-rest_ys.rest_ys.now (0, 0) c.in-len1-up-rest_ys.len_at_least in
    let none = none_there c.loop-rest_ys.rest_xs.now (omega (arith, c.in_default-rest_xs.len_below)) in
    let s = difference_of_slices_after_range _ _ _ _ _ _ _ c.loop-rest_ys.x y c.min.result c.loop-rest_ys.invariant second (omega (arith, c.if-y-x.false)) c.min.ensures c.in_ok-push_if_nonempty.ensures.normal c.in_ok-push_if_nonempty.ensures.below c.in_ok-push_if_nonempty.ensures.same in
    IfOk-weaker c.list_from_ranges-in_default-rest_xs.result _ _ (λ written is. ap set_of is ∙ first_only_view c.args.xs.now c.args.ys.now _ (difference_of_slices_complete _ _ _ _ _ s none)) c.list_from_ranges-in_default-rest_xs.ensures

pub loop-rest_ys-preserved : goal.loop-rest_ys-preserved
loop-rest_ys-preserved c =
    let y = get_or c.loop-rest_ys.rest_ys.now 0 (0, 0) in
    let second = first_item c.loop-rest_ys.rest_ys.now (0, 0) c.in-len1-up-rest_ys.len_at_least in
    let first = first_item c.loop-rest_ys.rest_xs.now (0, 0) c.in-len1-up-rest_xs.len_at_least in
    difference_of_slices_by_equality _ _ _ _ _ _ (difference_of_slices_after_range _ _ _ _ _ _ _ c.loop-rest_ys.x y c.min.result c.loop-rest_ys.invariant second (omega (arith, c.if-y-x.false)) c.min.ensures c.in_ok-push_if_nonempty.ensures.normal c.in_ok-push_if_nonempty.ensures.below c.in_ok-push_if_nonempty.ensures.same) first

pub loop-rest_ys-init : goal.loop-rest_ys-init
loop-rest_ys-init c = difference_of_slices_start _ _ _ _ c.in_ok-kept.ensures.items (first_item c.args.xs.now (0, 0) c.in-len1-up.len_at_least) c.requires.xs c.requires.ys
