use Rattle.moc_operations.specs.Private.Walks.{from_current}
use Rattle.moc_operations.proofs.Walking.{IsCounting, at_both, sharing_first, sharing_second, common_is_positive, counted_first}
use Rattle.moc_operations.proofs.Walking.{counted_second, shares_none}
use Rattle.moc_operations.proofs.comparisons.meets.Goals as goal

pub returns-in_default-second : goal.returns-in_default-second
returns-in_default-second c = shares_none _ (counted_second 0 (from_current c.loop-first.first c.loop-first.xs) c.loop-first.ys c.args.xs c.args.ys c.loop-first.second c.loop-first.invariant c.in_default-second.is)

pub loop-first-preserved-then-x-y : goal.loop-first-preserved-then-x-y
loop-first-preserved-then-x-y c =
    let s = at_both c.loop-first.first c.loop-first.second c.in-Some.x c.in-Some-second.y c.loop-first.xs c.loop-first.ys (λ xs ys. IsCounting 0 xs ys c.args.xs c.args.ys) c.in-Some.is c.in-Some-second.is c.loop-first.invariant in
    sharing_first c.next_ending_after-first.ensures.0 _ _ _ _ _ _ _ _ s c.if-x-y.true c.next_ending_after-first.ensures.1

pub loop-first-preserved : goal.loop-first-preserved
loop-first-preserved c =
    let s = at_both c.loop-first.first c.loop-first.second c.in-Some.x c.in-Some-second.y c.loop-first.xs c.loop-first.ys (λ xs ys. IsCounting 0 xs ys c.args.xs c.args.ys) c.in-Some.is c.in-Some-second.is c.loop-first.invariant in
    sharing_second c.next_ending_after-second.ensures.0 _ _ _ _ _ _ _ _ s c.if-y-x.true c.next_ending_after-second.ensures.1

pub returns-else-y-x : goal.returns-else-y-x
returns-else-y-x c =
    let s = at_both c.loop-first.first c.loop-first.second c.in-Some.x c.in-Some-second.y c.loop-first.xs c.loop-first.ys (λ xs ys. IsCounting 0 xs ys c.args.xs c.args.ys) c.in-Some.is c.in-Some-second.is c.loop-first.invariant in
    common_is_positive _ _ _ _ _ _ s c.if-x-y.false c.if-y-x.false

pub returns : goal.returns
returns c = shares_none _ (counted_first 0 c.loop-first.xs (from_current c.loop-first.second c.loop-first.ys) c.args.xs c.args.ys c.loop-first.first c.loop-first.invariant c.in_default.is)
