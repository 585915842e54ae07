use Rattle.std.proofs.lemmas.Result.{IfOk-weaker}
use Rattle.std.proofs.Common.{◌∙◌, ◌∷◌, [], ◌<◌, List, ℕ, ap, arith, refl, subst, sym, Option, Some}
use Rattle.moc_blocks.specs.RangeList.{set_of}
use Rattle.moc_operations.specs.Private.Walks.{from_current}
use Rattle.moc_blocks.specs.Private.Blocks.{next_of}
use Rattle.moc_blocks.proofs.Merging.{ends_next}
use Rattle.moc_blocks.specs.Private.Built.{ranges_of}
use Rattle.moc_operations.proofs.Walking.{at_both}
use Rattle.moc_operations.proofs.Views.{first_only_view}
use Rattle.moc_operations.proofs.Lacking.{IsDifferenceStep, difference_complete, difference_begin, difference_step_after_move, difference_all, difference_skipped}
use Rattle.moc_operations.proofs.Lacking.{difference_trim, difference_step_after_range, difference_step_after_advance}
use Rattle.moc_operations.proofs.Shortening.{length_from_current, advanced_shorter, length_after_move}
use Rattle.moc_operations.proofs.differences.difference_lists.Goals as goal

pub loop-first-init : goal.loop-first-init
loop-first-init c =
    let start = difference_begin _ c.args.xs c.args.ys c.next-second.new.self c.next-second.result (ap ranges_of c.in_ok-built.ensures) c.requires.xs c.requires.ys c.next-second.ensures.steps in
    difference_step_after_move _ _ _ _ _ _ _ c.start_of.result start (c.start_of.ensures c.next-second.new.self) c.in_ok-first.ensures

pub next_after_copied-requires-in_default-second : goal.next_after_copied-requires-in_default-second
next_after_copied-requires-in_default-second c =
    let s = subst (λ (o : Option (ℕ × ℕ)). IsDifferenceStep (ranges_of c.loop-first.built) (from_current o c.loop-first.xs) (from_current c.loop-first.second c.loop-first.ys) c.args.xs c.args.ys) c.in-Some.is c.loop-first.invariant in
    let l = difference_all _ _ c.loop-first.xs c.loop-first.ys _ _ c.in-Some.x c.loop-first.second s c.in_default-second.is c.in_ok-push_part.ensures.built c.in_ok-push_part.ensures.below c.in_ok-push_part.ensures.same in
    record { normal = l.first_normal; built = l.built; after = l.below }

pub loop-first-preserved-in_default-second : goal.loop-first-preserved-in_default-second
loop-first-preserved-in_default-second c =
    let s = subst (λ (o : Option (ℕ × ℕ)). IsDifferenceStep (ranges_of c.loop-first.built) (from_current o c.loop-first.xs) (from_current c.loop-first.second c.loop-first.ys) c.args.xs c.args.ys) c.in-Some.is c.loop-first.invariant in
    let l = difference_all _ _ c.loop-first.xs c.loop-first.ys _ _ c.in-Some.x c.loop-first.second s c.in_default-second.is c.in_ok-push_part.ensures.built c.in_ok-push_part.ensures.below c.in_ok-push_part.ensures.same in
    subst (λ (k : List (ℕ × ℕ)). IsDifferenceStep (ranges_of c.next_after_copied-in_default-second.new.built) (from_current c.in_ok-first-2.first c.next_after_copied-in_default-second.new.xs) k c.args.xs c.args.ys)
    (sym (ap (λ (o : Option (ℕ × ℕ)). from_current o c.loop-first.ys) c.in_default-second.is))
    (difference_step_after_move _ _ _ _ [] _ _ 18446744073709551615 l refl c.in_ok-first-2.ensures)

pub loop-first-preserved-then-y-x : goal.loop-first-preserved-then-y-x
loop-first-preserved-then-y-x c =
    let s = at_both c.loop-first.first c.loop-first.second c.in-Some.x c.in-Some-second.y c.loop-first.xs c.loop-first.ys (λ xs ys. IsDifferenceStep (ranges_of c.loop-first.built) xs ys c.args.xs c.args.ys) c.in-Some.is c.in-Some-second.is c.loop-first.invariant in
    difference_skipped _ _ _ _ _ _ _ _ (Some c.in-Some.x) _ c.next_ending_after-second.ensures.0 s refl (omega arith) c.next_ending_after-second.ensures.1

pub loop-first-preserved-then-y-x-2 : goal.loop-first-preserved-then-y-x-2
loop-first-preserved-then-y-x-2 c =
    let s = at_both c.loop-first.first c.loop-first.second c.in-Some.x c.in-Some-second.y c.loop-first.xs c.loop-first.ys (λ xs ys. IsDifferenceStep (ranges_of c.loop-first.built) xs ys c.args.xs c.args.ys) c.in-Some.is c.in-Some-second.is c.loop-first.invariant in
    difference_trim _ _ _ _ _ _ _ _ _ _ _ s (omega arith) (omega arith) c.min.ensures c.in_ok-push_part-2.ensures.built c.in_ok-push_part-2.ensures.below c.in_ok-push_part-2.ensures.same c.next-second-then-y-x-2.ensures.steps

pub next_after_copied-requires-then-x-y : goal.next_after_copied-requires-then-x-y
next_after_copied-requires-then-x-y c =
    let s = at_both c.loop-first.first c.loop-first.second c.in-Some.x c.in-Some-second.y c.loop-first.xs c.loop-first.ys (λ xs ys. IsDifferenceStep (ranges_of c.loop-first.built) xs ys c.args.xs c.args.ys) c.in-Some.is c.in-Some-second.is c.loop-first.invariant in
    let l = difference_step_after_range _ _ _ _ _ _ _ _ c.min.result s (omega arith) c.min.ensures c.in_ok-push_part-2.ensures.built c.in_ok-push_part-2.ensures.below c.in_ok-push_part-2.ensures.same in
    record { normal = l.first_normal; built = l.built; after = l.below }

pub loop-first-preserved-then-x-y : goal.loop-first-preserved-then-x-y
loop-first-preserved-then-x-y c =
    let s = at_both c.loop-first.first c.loop-first.second c.in-Some.x c.in-Some-second.y c.loop-first.xs c.loop-first.ys (λ xs ys. IsDifferenceStep (ranges_of c.loop-first.built) xs ys c.args.xs c.args.ys) c.in-Some.is c.in-Some-second.is c.loop-first.invariant in
    let l = difference_step_after_range _ _ _ _ _ _ _ _ c.min.result s (omega arith) c.min.ensures c.in_ok-push_part-2.ensures.built c.in_ok-push_part-2.ensures.below c.in_ok-push_part-2.ensures.same in
    difference_step_after_move _ _ _ _ _ _ _ c.in-Some-second.y.0 l refl c.in_ok-first-3.ensures

pub loop-first-preserved : goal.loop-first-preserved
loop-first-preserved c =
    let s = at_both c.loop-first.first c.loop-first.second c.in-Some.x c.in-Some-second.y c.loop-first.xs c.loop-first.ys (λ xs ys. IsDifferenceStep (ranges_of c.loop-first.built) xs ys c.args.xs c.args.ys) c.in-Some.is c.in-Some-second.is c.loop-first.invariant in
    let l = difference_step_after_range _ _ _ _ _ _ _ _ c.min.result s (omega arith) c.min.ensures c.in_ok-push_part-2.ensures.built c.in_ok-push_part-2.ensures.below c.in_ok-push_part-2.ensures.same in
    let next : c.in-Some.x.1 < next_of c.loop-first.xs = (ends_next (c.in-Some.x ∷ []) c.loop-first.xs s.first_normal).0 in
    difference_step_after_advance _ _ _ _ _ _ _ _ _ l (omega arith) c.advance-first.ensures

pub returns : goal.returns
returns c =
    IfOk-weaker c.finish.result _ _
    (λ written is. ap set_of is ∙ first_only_view c.args.xs c.args.ys _ (difference_complete _ c.loop-first.xs _ _ _ c.loop-first.first c.loop-first.invariant c.in_default.is))
    c.finish.ensures

pub loop-first-smaller-in_default-second : goal.loop-first-smaller-in_default-second
loop-first-smaller-in_default-second c = omega (arith, length_from_current _ _ c.loop-first.xs c.in-Some.is, length_after_move c.in_ok-first-2.ensures)

pub loop-first-smaller-then-y-x : goal.loop-first-smaller-then-y-x
loop-first-smaller-then-y-x c = omega (arith, length_from_current _ _ c.loop-first.xs c.in-Some.is, length_from_current _ _ c.loop-first.ys c.in-Some-second.is, advanced_shorter _ _ _ _ _ c.next_ending_after-second.ensures.1)

pub loop-first-smaller-then-x-y : goal.loop-first-smaller-then-x-y
loop-first-smaller-then-x-y c = omega (arith, length_from_current _ _ c.loop-first.xs c.in-Some.is, length_from_current _ _ c.loop-first.ys c.in-Some-second.is, length_after_move c.in_ok-first-3.ensures)

pub loop-first-smaller : goal.loop-first-smaller
loop-first-smaller c = omega (arith, length_from_current _ _ c.loop-first.xs c.in-Some.is, length_from_current _ _ c.loop-first.ys c.in-Some-second.is, advanced_shorter _ _ _ _ _ c.advance-first.ensures)
