use Rattle.std.proofs.Common.{arith}
use Rattle.moc_operations.proofs.Walking.{IsHolding, at_both, contains_all_after_skip, contains_all_after_take, contains_all_fails_at_first, contains_all_fails_at_end}
use Rattle.moc_operations.proofs.Walking.{contains_all_at_end}
use Rattle.moc_operations.proofs.comparisons.covers.Goals as goal

pub returns-in_default-first : goal.returns-in_default-first
returns-in_default-first c = contains_all_fails_at_end c.loop-second.first c.loop-second.second c.in-Some.y c.loop-second.xs c.loop-second.ys c.args.xs c.args.ys c.loop-second.invariant c.in_default-first.is c.in-Some.is

pub loop-second-preserved-then-x-y : goal.loop-second-preserved-then-x-y
loop-second-preserved-then-x-y c =
    let s = at_both c.loop-second.first c.loop-second.second c.in-Some-first.x c.in-Some.y c.loop-second.xs c.loop-second.ys (λ xs ys. IsHolding xs ys c.args.xs c.args.ys) c.in-Some-first.is c.in-Some.is c.loop-second.invariant in
    contains_all_after_skip c.next_ending_after-first.ensures.0 _ _ _ _ _ _ _ _ s c.if-x-y.true c.next_ending_after-first.ensures.1

pub loop-second-preserved : goal.loop-second-preserved
loop-second-preserved c =
    let s = at_both c.loop-second.first c.loop-second.second c.in-Some-first.x c.in-Some.y c.loop-second.xs c.loop-second.ys (λ xs ys. IsHolding xs ys c.args.xs c.args.ys) c.in-Some-first.is c.in-Some.is c.loop-second.invariant in
    contains_all_after_take c.next_ending_after-second.ensures.0 _ _ _ _ _ _ _ _ s (omega arith) (omega arith) c.next_ending_after-second.ensures.1

pub returns-then-y-x : goal.returns-then-y-x
returns-then-y-x c =
    let s = at_both c.loop-second.first c.loop-second.second c.in-Some-first.x c.in-Some.y c.loop-second.xs c.loop-second.ys (λ xs ys. IsHolding xs ys c.args.xs c.args.ys) c.in-Some-first.is c.in-Some.is c.loop-second.invariant in
    contains_all_fails_at_first _ _ _ _ _ _ s (omega arith)

pub returns : goal.returns
returns c = contains_all_at_end c.loop-second.first c.loop-second.second c.loop-second.xs c.loop-second.ys c.args.xs c.args.ys c.loop-second.invariant c.in_default.is
