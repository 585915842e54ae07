use Rattle.std.proofs.Common.{◌≡◌, Some, inl, inr, refl, sym, ap, subst, ◌∙◌}
use Rattle.std.specs.FinMap as map
use Rattle.moc_parts.specs.Batches.{batches}
use Rattle.moc_steps.specs.Machine.{client_at}
use Rattle.moc_steps.specs.Theorems.{IsReachable}
use Rattle.moc_steps.specs.Private.ClientState.{ClientState}
use Rattle.moc_steps.specs.Played.{BatchWorld}
use Rattle.moc_steps.proofs.Values.{len-values}
use Rattle.moc_steps.proofs.PreservedSteps.{seen_as}
use Rattle.moc_steps.proofs.NextSteps.{free_ends, free_takes}
use Rattle.moc_steps.proofs.world.World.step_of_first.Goals as goal
use Rattle.moc_steps.proofs.world.World.step_of_first.Goals.{then-quits-via-then-quits}
use Rattle.moc_steps.proofs.world.World.step_of_first.Goals.{then-quits-via-else-quits+then-has_taken_some}

pub returns-in_err-client-clause-none : goal.returns-in_err-client-clause-none
returns-in_err-client-clause-none c = λ _.
    sym (ap (λ (w : BatchWorld). map.len w.locks.clients) c.self.view_is) ∙ len-values (λ (s : ClientState). s.running) c.self.inside.clients ∙ c.in_err-client.ensures.none refl

pub returns-then-quits-clause-some : goal.returns-then-quits-clause-some
returns-then-quits-clause-some c =
    let i = c.self.inside in
    let was : client_at batches c.args.self.now c.in_ok-client.client ≡ Some c.in_ok-midway.midway.now.running =
    seen_as i.begun i.clients i.parts.items i.holders i.order.items c.self.invariant c.in_ok-client.client c.in_ok-client.client c.args.self.now (Some c.in_ok-midway.midway.now) c.self.view_is refl (sym c.in_ok-midway.ensures) in (
      free_ends c.args.self.now c.in_ok-client.client c.in_ok-midway.midway.now.running was c.requires (elim c.then-quits.branch [
        | then-quits-via-then-quits w ↦ inl (sym c.quits.ensures ∙ w.if-quits.true)
        | then-quits-via-else-quits+then-has_taken_some w ↦ inr (sym w.has_taken_some.ensures ∙ w.if-has_taken_some.true)
      ]),
      refl,
    )

pub returns-clause-some : goal.returns-clause-some
returns-clause-some c =
    let i = c.self.inside in
    let was : client_at batches c.args.self.now c.in_ok-client.client ≡ Some c.in_ok-midway.midway.now.running =
    seen_as i.begun i.clients i.parts.items i.holders i.order.items c.self.invariant c.in_ok-client.client c.in_ok-client.client c.args.self.now (Some c.in_ok-midway.midway.now) c.self.view_is refl (sym c.in_ok-midway.ensures) in (
      free_takes c.args.self.now c.in_ok-client.client c.in_ok-midway.midway.now.running was (subst (λ w. IsReachable batches w) c.self.view_is c.self.invariant.reached) c.requires
          (sym c.quits.ensures ∙ c.if-quits.false) (sym c.has_taken_some.ensures ∙ c.if-has_taken_some.false),
      refl,
    )
