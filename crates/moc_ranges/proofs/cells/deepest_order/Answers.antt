use Rattle.std.proofs.Common.{subst, List, ℕ, arith}
use Rattle.moc_ranges.proofs.Deepest.{Bounding, bounding_start, bounding_step, order_whole, order_least}
use Rattle.moc_ranges.proofs.cells.deepest_order.Goals as goal

pub loop-from-init : goal.loop-from-init
loop-from-init c = record { continues = (tt, tt); bounding = rw c.into_iter-from-iterator.ensures.into_iter_gives (bounding_start c.args.ranges) }

pub loop-from-preserved : goal.loop-from-preserved
loop-from-preserved c =
    let b = subst (λ (rs : List (ℕ × ℕ)). Bounding c.loop-from.bounds rs c.args.ranges) c.in-Some.ensures.steps c.loop-from.invariant.bounding in
    record { continues = (tt, tt); bounding = bounding_step c.loop-from.bounds (c.in-Some.from, c.in-Some.to) c.next.new.self c.args.ranges b }

pub returns-clause-whole : goal.returns-clause-whole
returns-clause-whole c =
    let b = subst (λ (rs : List (ℕ × ℕ)). Bounding c.loop-from.bounds rs c.args.ranges) c.in-None.ensures.steps.0 c.loop-from.invariant.bounding in
    order_whole c.of.result c.loop-from.bounds c.args.ranges b c.requires (omega arith) (omega arith)

pub returns-clause-least : goal.returns-clause-least
returns-clause-least c = λ k same.
    let b = subst (λ (rs : List (ℕ × ℕ)). Bounding c.loop-from.bounds rs c.args.ranges) c.in-None.ensures.steps.0 c.loop-from.invariant.bounding in
    let least = order_least k c.loop-from.bounds c.args.ranges b c.requires (omega arith) same in
    omega arith
