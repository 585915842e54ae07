-- The steps that led to the world have one order, and if no client is active, the parts are what it makes.
use Rattle.std.proofs.Common.{◌≡◌, Result, Ok, Err, IfOk, OnOk, sym, subst, ◌∙◌}
use Rattle.std.specs.FinMap as map
use Rattle.moc_lists.specs.RangeList.{NumberSet}
use Rattle.moc_parts.specs.Batches.{batches}
use Rattle.moc_steps.specs.Orders.{Explains, set_by_order, midway}
use Rattle.moc_steps.specs.Played.{BatchWorld}
use Rattle.moc_steps.specs.Machine.{whole}
use Rattle.map_tests.specs.Worlds.{IsMadeInOrder}
use Rattle.map_tests.proofs.steps.set_in_order.Goals as goal

ok_and_implied : {A E P : Type 0} (Q R : A → Type 0) (r : Result A E) → IfOk r Q → OnOk r P → ((a : A) → Q a → P → R a) → IfOk r R
ok_and_implied Q R (Ok a) q p f = f a q p
ok_and_implied Q R (Err e) q p f = tt

pub returns : goal.returns
returns c =
    let w : BatchWorld = c.args.world.now in
    let r = c.prove_reachable.ensures.reached in
    let one = c.steps_have_one_order.ensures r.start r.steps r.played in
    let counted = subst (λ (v : BatchWorld). map.len v.locks.clients ≡ midway r.steps) r.leads one.counted in
    let together = subst (λ (v : BatchWorld). midway r.steps ≡ 0 → whole batches v ≡ set_by_order batches v.order r.steps r.start) r.leads one.together in
    ok_and_implied (λ (a : NumberSet). a ≡ whole batches w) (IsMadeInOrder w) c.coverage.result c.coverage.ensures.covered c.coverage.ensures.idle (λ a is idle. record {
      start = r.start;
      steps = r.steps;
      leads = r.leads;
      explained = subst (λ (v : BatchWorld). Explains batches v.order r.steps r.start) r.leads one.explained;
      made = is ∙ together (sym counted ∙ idle);
    })
