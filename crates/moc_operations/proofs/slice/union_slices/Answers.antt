use Rattle.std.proofs.Common.{◌∙◌, arith, ap}
use Rattle.std.proofs.lemmas.Result.{IfOk-weaker}
use Rattle.moc_blocks.specs.Lemmas.Members.{in_ranges}
use Rattle.moc_blocks.specs.RangeList.{set_of}
use Rattle.moc_blocks.proofs.Blocking.{none_there}
use Rattle.moc_blocks.proofs.Basics.{first_item}
use Rattle.moc_operations.proofs.Views.{union_view}
use Rattle.moc_operations.proofs.Slices.{or_swap, union_slices_swap, union_slices_settled, union_slices_at, union_of_slices_normal}
use Rattle.moc_operations.proofs.Slices.{union_of_slices_first_empty, union_with_empty_first, union_with_empty_second, union_slices_start}
use Rattle.moc_operations.proofs.slice.union_slices.Goals as goal

pub returns-in_default : goal.returns-in_default
returns-in_default c =
    let none = none_there c.args.xs.now (omega (arith, c.in_default.len_below)) in
    IfOk-weaker c.copy_list.result _ _ (λ written is. ap set_of is ∙ union_view c.args.xs.now c.args.ys.now c.args.ys.now (union_with_empty_first _ _ none)) c.copy_list.ensures

pub returns-in_default-ys : goal.returns-in_default-ys
returns-in_default-ys c =
    let none = none_there c.args.ys.now (omega (arith, c.in_default-ys.len_below)) in
    IfOk-weaker c.copy_list-in_default-ys.result _ _ (λ written is. ap set_of is ∙ union_view c.args.xs.now c.args.ys.now c.args.xs.now (union_with_empty_second _ _ none)) c.copy_list-in_default-ys.ensures

pub finish-requires : goal.finish-requires
finish-requires c =
    let none = none_there c.loop-x.rest_xs.now (omega (arith, c.in_default-rest_xs.len_below)) in
    union_of_slices_normal _ _ _ _ _ c.in_ok-y.y (union_slices_settled _ _ _ _ _ _ c.loop-x.x c.loop-x.y c.in_ok-y.y c.loop-x.invariant c.in_ok-y.ensures) none

pub returns-in_default-rest_xs : goal.returns-in_default-rest_xs
returns-in_default-rest_xs c =
    let none = none_there c.loop-x.rest_xs.now (omega (arith, c.in_default-rest_xs.len_below)) in
    let s = union_slices_settled _ _ _ _ _ _ c.loop-x.x c.loop-x.y c.in_ok-y.y c.loop-x.invariant c.in_ok-y.ensures in
    IfOk-weaker c.finish.result _ _ (λ written is. ap set_of is ∙ union_view c.args.xs.now c.args.ys.now _ (union_of_slices_first_empty _ _ _ _ _ s none)) c.finish.ensures

pub loop-x-preserved-then-x-y : goal.loop-x-preserved-then-x-y
loop-x-preserved-then-x-y c =
    union_slices_at _ _ _ _ _ _ (union_slices_settled _ _ _ _ _ _ c.loop-x.x c.loop-x.y c.in_ok-y.y c.loop-x.invariant c.in_ok-y.ensures) (first_item c.loop-x.rest_xs.now (0, 0) c.in-len1-up-rest_xs.len_at_least)

pub finish-requires-in_default-rest_ys : goal.finish-requires-in_default-rest_ys
finish-requires-in_default-rest_ys c =
    let none = none_there c.loop-x.rest_ys.now (omega (arith, c.in_default-rest_ys.len_below)) in
    union_of_slices_normal _ _ _ _ _ c.in_ok-x.x (union_slices_settled _ _ _ _ _ _ c.loop-x.y c.loop-x.x c.in_ok-x.x (union_slices_swap _ _ _ _ _ c.loop-x.invariant) c.in_ok-x.ensures) none

pub returns-in_default-rest_ys : goal.returns-in_default-rest_ys
returns-in_default-rest_ys c =
    let none = none_there c.loop-x.rest_ys.now (omega (arith, c.in_default-rest_ys.len_below)) in
    let s = union_slices_settled _ _ _ _ _ _ c.loop-x.y c.loop-x.x c.in_ok-x.x (union_slices_swap _ _ _ _ _ c.loop-x.invariant) c.in_ok-x.ensures in
    IfOk-weaker c.finish-in_default-rest_ys.result _ _ (λ written is. ap set_of is ∙ union_view c.args.xs.now c.args.ys.now _ (λ q. union_of_slices_first_empty _ _ _ _ _ s none q ∙ or_swap (in_ranges c.args.ys.now q) (in_ranges c.args.xs.now q))) c.finish-in_default-rest_ys.ensures

pub loop-x-preserved : goal.loop-x-preserved
loop-x-preserved c =
    union_slices_swap _ _ _ _ _ (union_slices_at _ _ _ _ _ _ (union_slices_settled _ _ _ _ _ _ c.loop-x.y c.loop-x.x c.in_ok-x.x (union_slices_swap _ _ _ _ _ c.loop-x.invariant) c.in_ok-x.ensures) (first_item c.loop-x.rest_ys.now (0, 0) c.in-len1-up-rest_ys.len_at_least))

pub loop-x-init : goal.loop-x-init
loop-x-init c = union_slices_start _ _ _ _ _ c.in_ok-kept.ensures.items (first_item c.args.xs.now (0, 0) c.in-len1-up.len_at_least) (first_item c.args.ys.now (0, 0) c.in-len1-up-ys.len_at_least) c.requires.xs c.requires.ys
