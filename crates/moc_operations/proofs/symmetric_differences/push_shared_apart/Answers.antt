use Rattle.std.proofs.Common.{◌≡◌, ◌≤◌, Option, None, List, ℕ, length, length-append, ap, arith}
use Rattle.moc_blocks.specs.Private.Blocks.{next_of}
use Rattle.moc_blocks.specs.Private.Built.{MovesPrefix}
use Rattle.moc_operations.specs.Private.SymmetricBounds.{IsBoundsStep}
use Rattle.moc_operations.proofs.Differing.{symmetric_step_after_move, differing_swap}
use Rattle.moc_operations.proofs.Bounds.{bounds_step_of_symmetric, symmetric_of_bounds_step, bounds_step_without_bound, can_first}
use Rattle.moc_operations.proofs.symmetric_differences.push_shared_apart.Goals as goal

length_after_move_at_most : (xs xs' before after : List (ℕ × ℕ)) (limit : ℕ) → MovesPrefix xs xs' limit before after → length xs' ≤ length xs
length_after_move_at_most xs xs' before after limit c = omega (arith, ap length c.parts, length-append c.removed xs')

pub push_shared_below-requires : goal.push_shared_below-requires
push_shared_below-requires c = can_first _ _ _ _ _ (symmetric_of_bounds_step _ _ _ _ _ _ _ _ c.in-None.is (c.loop-built.invariant.on _ _ c.requires.started.1.1))

pub push_shared_next-requires : goal.push_shared_next-requires
push_shared_next-requires c =
    let d = symmetric_of_bounds_step _ _ _ _ _ _ _ _ c.in-None.is (c.loop-built.invariant.on _ _ c.requires.started.1.1) in
    let e = symmetric_step_after_move _ _ _ _ _ _ _ c.next_from.result d (omega (arith, c.next_from.ensures)) c.in_ok-push_shared_below.ensures in
    can_first _ _ _ _ _ (differing_swap _ _ _ _ _ e)

-- appending whole nodes and blocks of both lists keeps the invariant
bounds_step_after_both_moves : (built built1 built2 xs xs' ys ys' whole_xs whole_ys : List (ℕ × ℕ)) (bound : Option ℕ) (first second low high : ℕ) → bound ≡ None → IsBoundsStep built bound first second xs ys whole_xs whole_ys → low ≡ next_of ys → MovesPrefix xs xs' low built built1 → high ≡ next_of xs' → MovesPrefix ys ys' high built1 built2 → IsBoundsStep built2 bound first second xs' ys' whole_xs whole_ys
bounds_step_after_both_moves built built1 built2 xs xs' ys ys' whole_xs whole_ys bound first second low high none s is_low carried is_high also =
    let d = symmetric_of_bounds_step _ _ _ _ _ _ _ _ none s in
    let e = symmetric_step_after_move _ _ _ _ _ _ _ low d (omega (arith, is_low)) carried in
    let f = symmetric_step_after_move _ _ _ _ _ _ _ high (differing_swap _ _ _ _ _ e) (omega (arith, is_high)) also in
    bounds_step_of_symmetric _ _ _ _ _ _ whole_xs whole_ys none (bounds_step_without_bound _ _ _ _ _ _ _ _ none s) (differing_swap _ _ _ _ _ f)

pub loop-built-preserved : goal.loop-built-preserved
loop-built-preserved c = record {
  on = λ whole_xs whole_ys s. bounds_step_after_both_moves _ _ _ _ _ _ _ whole_xs whole_ys _ _ _ _ _ c.in-None.is (c.loop-built.invariant.on whole_xs whole_ys s) c.next_from.ensures c.in_ok-push_shared_below.ensures c.next_from-in-loop-built.ensures c.in_ok-carried.ensures.carried;
  fewer = omega (arith, c.loop-built.invariant.fewer, length_after_move_at_most _ _ _ _ _ c.in_ok-push_shared_below.ensures, length_after_move_at_most _ _ _ _ _ c.in_ok-carried.ensures.carried);
}

pub returns-then-not-carried-clause-on : goal.returns-then-not-carried-clause-on
returns-then-not-carried-clause-on c = λ whole_xs whole_ys s. bounds_step_after_both_moves _ _ _ _ _ _ _ whole_xs whole_ys _ _ _ _ _ c.in-None.is (c.loop-built.invariant.on whole_xs whole_ys s) c.next_from.ensures c.in_ok-push_shared_below.ensures c.next_from-in-loop-built.ensures c.in_ok-carried.ensures.carried
