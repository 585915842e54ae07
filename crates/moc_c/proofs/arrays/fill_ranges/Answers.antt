use Rattle.std.proofs.Common.{◌≡◌, ◌<◌, [], length, refl, sym, ap, ◌∙◌, arith, rules}
use Rattle.moc_c.specs.CallResults.{number_result}
use Rattle.moc_c.proofs.Filling.{result_of_filled, filling_more, has_capacity}
use Rattle.moc_c.proofs.arrays.fill_ranges.Goals as goal

pub loop-from-init : goal.loop-from-init
loop-from-init c =
    let count = ap (λ r. r.0) c.size_hint-count.ensures.exact in
    (sym c.into_iter-from-iterator.ensures.into_iter_gives, omega (arith, count, c.if-out-count.false), refl, refl, refl)

pub offset_bounds-out-at : goal.offset_bounds-out-at
offset_bounds-out-at c =
    let lt : c.loop-from.at < length c.loop-from.out =
    has_capacity c.args.out.now c.args.ranges c.loop-from.yielded c.loop-from.from-iterator c.next.new.self c.loop-from.out c.loop-from.at (c.in-Some.from, c.in-Some.to) c.loop-from.invariant c.in-Some.ensures.steps in
    search rules

pub bounds-out-at : goal.bounds-out-at
bounds-out-at c =
    has_capacity c.args.out.now c.args.ranges c.loop-from.yielded c.loop-from.from-iterator c.next.new.self c.loop-from.out c.loop-from.at (c.in-Some.from, c.in-Some.to) c.loop-from.invariant c.in-Some.ensures.steps

pub overflow_add-at : goal.overflow_add-at
overflow_add-at c =
    let lt : c.loop-from.at < length c.loop-from.out =
    has_capacity c.args.out.now c.args.ranges c.loop-from.yielded c.loop-from.from-iterator c.next.new.self c.loop-from.out c.loop-from.at (c.in-Some.from, c.in-Some.to) c.loop-from.invariant c.in-Some.ensures.steps in
    search rules

pub loop-from-smaller : goal.loop-from-smaller
loop-from-smaller c = let one = ap length c.in-Some.ensures.steps in omega arith

pub loop-from-preserved : goal.loop-from-preserved
loop-from-preserved c =
    filling_more c.args.out.now c.args.ranges c.loop-from.yielded c.loop-from.from-iterator c.next.new.self c.loop-from.out c.loop-from.at (c.in-Some.from, c.in-Some.to) c.loop-from.invariant c.in-Some.ensures.steps

pub returns : goal.returns
returns c =
    let none : c.loop-from.from-iterator ≡ [] = search rules in
    result_of_filled c.args.ranges c.loop-from.yielded c.loop-from.from-iterator c.args.out.now c.loop-from.out c.loop-from.at c.number.result c.loop-from.invariant none
    (c.number.ensures ∙ ap number_result (ap (λ r. r.0) c.size_hint-count.ensures.exact))
