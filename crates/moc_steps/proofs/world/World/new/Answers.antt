use Rattle.std.proofs.Common.{rules, arith, ◌≡◌, [], ◌∷◌, ◌++◌, ◌∙◌}
use Rattle.std.specs.Vec.Iter.{into_iter_items}
use Rattle.moc_steps.proofs.Starting.{starts, start_kept, next_list_of_rest, all_done_at_end, no_items}
use Rattle.moc_steps.proofs.world.World.new.Goals as goal

pub loop-list-init : goal.loop-list-init
loop-list-init c =
    let rest : into_iter_items c.into_iter-list-iterator.result ≡ c.in_ok-list-items.list-items.items = search rules in
    (λ i. c.new-parts.ensures.items i ++ rest i) ∙ c.in_ok-list-items.ensures.parts

pub loop-list-preserved : goal.loop-list-preserved
loop-list-preserved c =
    let rest : into_iter_items c.loop-list.list-iterator ≡ c.in-Some.list ∷ into_iter_items c.next.new.self = grind rules in
    next_list_of_rest c.loop-list.parts.items _ c.in-Some.list c.in_ok-new.field-0 _ _ _ c.in_ok-push.ensures.items c.in_ok-new.ensures rest c.loop-list.invariant

pub invariant_of-result : goal.invariant_of-result
invariant_of-result c =
    let none : into_iter_items c.loop-list.list-iterator ≡ [] =
    no_items _ (omega (arith, c.loop-list.list-iterator.rest.ok, c.in-None.ensures.steps.0)) in
    start_kept c.new-2.result c.loop-list.parts.items c.new-3.result.items c.args.start c.new-2.ensures (all_done_at_end c.loop-list.parts.items _ _ none c.loop-list.invariant) c.new-3.ensures.items
    c.in_ok-list-items.ensures.within

pub returns : goal.returns
returns c =
    let none : into_iter_items c.loop-list.list-iterator ≡ [] =
    no_items _ (omega (arith, c.loop-list.list-iterator.rest.ok, c.in-None.ensures.steps.0)) in
    starts c.new-2.result c.loop-list.parts.items c.new-3.result.items c.args.start c.new-2.ensures (all_done_at_end c.loop-list.parts.items _ _ none c.loop-list.invariant) c.new-3.ensures.items
