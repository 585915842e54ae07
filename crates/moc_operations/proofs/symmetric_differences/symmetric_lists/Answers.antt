use Rattle.std.proofs.Common.{◌∙◌, ℕ, Option, ap, arith, subst}
use Rattle.std.proofs.lemmas.Result.{IfOk-weaker}
use Rattle.moc_blocks.specs.Lemmas.Members.{in_ranges}
use Rattle.moc_blocks.specs.RangeList.{set_of}
use Rattle.moc_operations.specs.Private.Walks.{from_current}
use Rattle.moc_blocks.specs.Private.Built.{ranges_of}
use Rattle.moc_operations.specs.Private.Differing.{IsSymmetricStep}
use Rattle.moc_blocks.proofs.Merging.{EndsBelow-more}
use Rattle.moc_operations.proofs.Walking.{at_both}
use Rattle.moc_operations.proofs.Differing.{differs_swap, differs_view, symmetric_first_empty, differed_normal, differing_both}
use Rattle.moc_operations.proofs.Differing.{symmetric_step_after_move, differing_start, differing_swap}
use Rattle.moc_operations.proofs.symmetric_differences.symmetric_lists.Goals as goal

pub loop-first-init : goal.loop-first-init
loop-first-init c =
    let start = differing_start _ _ _ (ap ranges_of c.in_ok-built.ensures) c.requires.xs c.requires.ys in
    let one = symmetric_step_after_move _ _ _ _ _ _ _ c.next_from.result start (omega (arith, c.next_from.ensures)) c.in_ok-first.ensures in
    differing_swap _ _ _ _ _ (symmetric_step_after_move _ _ _ _ _ _ _ c.start_of.result (differing_swap _ _ _ _ _ one) (omega (arith, c.start_of.ensures c.next_after_shared.new.xs)) c.in_ok-second.ensures)

pub finish_symmetric-requires : goal.finish_symmetric-requires
finish_symmetric-requires c =
    let s = subst (λ (o : Option (ℕ × ℕ)). IsSymmetricStep (ranges_of c.loop-first.built) (from_current o c.loop-first.xs) (from_current c.loop-first.second c.loop-first.ys) c.args.xs c.args.ys) c.in-Some.is c.loop-first.invariant in
    differed_normal _ _ _ _ _ (differing_swap _ _ _ _ _ s) (ap (λ (o : Option (ℕ × ℕ)). from_current o c.loop-first.ys) c.in_default-second.is)

pub returns-in_default-second : goal.returns-in_default-second
returns-in_default-second c =
    let s = subst (λ (o : Option (ℕ × ℕ)). IsSymmetricStep (ranges_of c.loop-first.built) (from_current o c.loop-first.xs) (from_current c.loop-first.second c.loop-first.ys) c.args.xs c.args.ys) c.in-Some.is c.loop-first.invariant in
    let none = ap (λ (o : Option (ℕ × ℕ)). from_current o c.loop-first.ys) c.in_default-second.is in
    IfOk-weaker c.finish_symmetric.result _ _ (λ written is. ap set_of is ∙ differs_view c.args.xs c.args.ys _ (λ q.
    symmetric_first_empty _ _ _ _ _ (differing_swap _ _ _ _ _ s) none q ∙ differs_swap (in_ranges c.args.ys q) (in_ranges c.args.xs q))) c.finish_symmetric.ensures

pub loop-first-preserved-then-x-y : goal.loop-first-preserved-then-x-y
loop-first-preserved-then-x-y c =
    let s = at_both c.loop-first.first c.loop-first.second c.in-Some.x c.in-Some-second.y c.loop-first.xs c.loop-first.ys (λ xs ys. IsSymmetricStep (ranges_of c.loop-first.built) xs ys c.args.xs c.args.ys) c.in-Some.is c.in-Some-second.is c.loop-first.invariant in
    c.in_ok-passed.ensures.on _ _ _ s

pub loop-first-preserved-then-y-x : goal.loop-first-preserved-then-y-x
loop-first-preserved-then-y-x c =
    let s = at_both c.loop-first.first c.loop-first.second c.in-Some.x c.in-Some-second.y c.loop-first.xs c.loop-first.ys (λ xs ys. IsSymmetricStep (ranges_of c.loop-first.built) xs ys c.args.xs c.args.ys) c.in-Some.is c.in-Some-second.is c.loop-first.invariant in
    differing_swap _ _ _ _ _ (c.in_ok-passed-2.ensures.on _ _ _ (differing_swap _ _ _ _ _ s))

pub next_after_shared-requires-else-y-x : goal.next_after_shared-requires-else-y-x
next_after_shared-requires-else-y-x c =
    let s = at_both c.loop-first.first c.loop-first.second c.in-Some.x c.in-Some-second.y c.loop-first.xs c.loop-first.ys (λ xs ys. IsSymmetricStep (ranges_of c.loop-first.built) xs ys c.args.xs c.args.ys) c.in-Some.is c.in-Some-second.is c.loop-first.invariant in
    let b = differing_both _ _ _ _ _ _ c.in-Some.x c.in-Some-second.y c.min.result c.max.result s (omega (arith, c.if-x-y.false, c.if-y-x.false)) c.min.ensures c.max.ensures c.in_ok-push_part.ensures.built c.in_ok-push_part.ensures.below c.in_ok-push_part.ensures.same in
    record { normal = b.first_normal; built = b.normal; after = EndsBelow-more _ _ _ b.below (omega arith) }

pub next_after_shared-requires-else-y-x-2 : goal.next_after_shared-requires-else-y-x-2
next_after_shared-requires-else-y-x-2 c =
    let s = at_both c.loop-first.first c.loop-first.second c.in-Some.x c.in-Some-second.y c.loop-first.xs c.loop-first.ys (λ xs ys. IsSymmetricStep (ranges_of c.loop-first.built) xs ys c.args.xs c.args.ys) c.in-Some.is c.in-Some-second.is c.loop-first.invariant in
    let b = differing_both _ _ _ _ _ _ c.in-Some.x c.in-Some-second.y c.min.result c.max.result s (omega (arith, c.if-x-y.false, c.if-y-x.false)) c.min.ensures c.max.ensures c.in_ok-push_part.ensures.built c.in_ok-push_part.ensures.below c.in_ok-push_part.ensures.same in
    let f = symmetric_step_after_move _ _ _ _ _ _ _ c.next_from-else-y-x.result b (omega (arith, c.next_from-else-y-x.ensures)) c.in_ok-first-2.ensures in
    record { normal = f.second_normal; built = f.normal; after = EndsBelow-more _ _ _ f.below (omega arith) }

pub loop-first-preserved : goal.loop-first-preserved
loop-first-preserved c =
    let s = at_both c.loop-first.first c.loop-first.second c.in-Some.x c.in-Some-second.y c.loop-first.xs c.loop-first.ys (λ xs ys. IsSymmetricStep (ranges_of c.loop-first.built) xs ys c.args.xs c.args.ys) c.in-Some.is c.in-Some-second.is c.loop-first.invariant in
    let b = differing_both _ _ _ _ _ _ c.in-Some.x c.in-Some-second.y c.min.result c.max.result s (omega (arith, c.if-x-y.false, c.if-y-x.false)) c.min.ensures c.max.ensures c.in_ok-push_part.ensures.built c.in_ok-push_part.ensures.below c.in_ok-push_part.ensures.same in
    let f = symmetric_step_after_move _ _ _ _ _ _ _ c.next_from-else-y-x.result b (omega (arith, c.next_from-else-y-x.ensures)) c.in_ok-first-2.ensures in
    differing_swap _ _ _ _ _ (symmetric_step_after_move _ _ _ _ _ _ _ c.start_of-else-y-x.result (differing_swap _ _ _ _ _ f) (omega (arith, c.start_of-else-y-x.ensures c.next_after_shared-else-y-x.new.xs)) c.in_ok-second-2.ensures)

pub finish_symmetric-requires-2 : goal.finish_symmetric-requires-2
finish_symmetric-requires-2 c = differed_normal _ _ _ _ _ c.loop-first.invariant (ap (λ (o : Option (ℕ × ℕ)). from_current o c.loop-first.xs) c.in_default.is)

pub returns : goal.returns
returns c =
    let none = ap (λ (o : Option (ℕ × ℕ)). from_current o c.loop-first.xs) c.in_default.is in
    IfOk-weaker c.finish_symmetric-2.result _ _ (λ written is. ap set_of is ∙ differs_view c.args.xs c.args.ys _ (symmetric_first_empty _ _ _ _ _ c.loop-first.invariant none)) c.finish_symmetric-2.ensures
