use Rattle.std.proofs.Common.{arith}
use Rattle.moc_operations.specs.Private.Walks.{from_current}
use Rattle.moc_operations.proofs.Walking.{IsCounting, at_both, counting_first, counting_second, common_count_bounded}
use Rattle.moc_operations.proofs.Walking.{counted_first, counted_second, counted_within, common_bounded}
use Rattle.moc_operations.proofs.comparisons.count_common.Goals as goal

pub returns-in_default-second : goal.returns-in_default-second
returns-in_default-second c = counted_second c.loop-first.total (from_current c.loop-first.first c.loop-first.xs) c.loop-first.ys c.args.xs c.args.ys c.loop-first.second c.loop-first.invariant c.in_default-second.is

pub overflow_add-total : goal.overflow_add-total
overflow_add-total c =
    let s = at_both c.loop-first.first c.loop-first.second c.in-Some.x c.in-Some-second.y c.loop-first.xs c.loop-first.ys (λ xs ys. IsCounting c.loop-first.total xs ys c.args.xs c.args.ys) c.in-Some.is c.in-Some-second.is c.loop-first.invariant in
    omega (arith, common_count_bounded _ _ _ _ _ _ _ _ s c.overlap-total.ensures, common_bounded c.args.xs c.args.ys c.requires.xs)

pub overflow_add-total-then-x-y : goal.overflow_add-total-then-x-y
overflow_add-total-then-x-y c =
    let s = at_both c.loop-first.first c.loop-first.second c.in-Some.x c.in-Some-second.y c.loop-first.xs c.loop-first.ys (λ xs ys. IsCounting c.loop-first.total xs ys c.args.xs c.args.ys) c.in-Some.is c.in-Some-second.is c.loop-first.invariant in
    let next = counting_first _ _ _ _ _ _ _ _ _ _ _ s c.overlap-total.ensures c.if-x-y.true c.advance-ahead.ensures in
    omega (arith, counted_within _ _ _ _ _ next, common_bounded c.args.xs c.args.ys c.requires.xs)

pub loop-first-preserved-then-x-y : goal.loop-first-preserved-then-x-y
loop-first-preserved-then-x-y c =
    let s = at_both c.loop-first.first c.loop-first.second c.in-Some.x c.in-Some-second.y c.loop-first.xs c.loop-first.ys (λ xs ys. IsCounting c.loop-first.total xs ys c.args.xs c.args.ys) c.in-Some.is c.in-Some-second.is c.loop-first.invariant in
    counting_first _ _ _ _ _ _ _ _ _ _ _ s c.overlap-total.ensures c.if-x-y.true c.advance-ahead.ensures

pub overflow_add-total-else-x-y : goal.overflow_add-total-else-x-y
overflow_add-total-else-x-y c =
    let s = at_both c.loop-first.first c.loop-first.second c.in-Some.x c.in-Some-second.y c.loop-first.xs c.loop-first.ys (λ xs ys. IsCounting c.loop-first.total xs ys c.args.xs c.args.ys) c.in-Some.is c.in-Some-second.is c.loop-first.invariant in
    let next = counting_second _ _ _ _ _ _ _ _ _ _ _ s c.overlap-total.ensures (omega (arith, c.if-x-y.false)) c.advance-ahead-else-x-y.ensures in
    omega (arith, counted_within _ _ _ _ _ next, common_bounded c.args.xs c.args.ys c.requires.xs)

pub loop-first-preserved : goal.loop-first-preserved
loop-first-preserved c =
    let s = at_both c.loop-first.first c.loop-first.second c.in-Some.x c.in-Some-second.y c.loop-first.xs c.loop-first.ys (λ xs ys. IsCounting c.loop-first.total xs ys c.args.xs c.args.ys) c.in-Some.is c.in-Some-second.is c.loop-first.invariant in
    counting_second _ _ _ _ _ _ _ _ _ _ _ s c.overlap-total.ensures (omega (arith, c.if-x-y.false)) c.advance-ahead-else-x-y.ensures

pub returns : goal.returns
returns c = counted_first c.loop-first.total c.loop-first.xs (from_current c.loop-first.second c.loop-first.ys) c.args.xs c.args.ys c.loop-first.first c.loop-first.invariant c.in_default.is
