use Rattle.std.proofs.Common.{◌≡◌, Some, None, inl, inr, refl, sym, ap, ◌∙◌}
use Rattle.std.specs.Option.{is_some}
use Rattle.moc_parts.specs.Batches.{batches}
use Rattle.moc_steps.specs.Machine.{client_at}
use Rattle.moc_steps.proofs.Basics.{absurd_bool}
use Rattle.moc_steps.proofs.TakingParts.{holder_holds}
use Rattle.moc_steps.proofs.PreservedSteps.{seen_as}
use Rattle.moc_steps.proofs.NextSteps.{highest_takes, highest_edits, highest_gives}
use Rattle.moc_steps.proofs.world.World.step_of_holder.Goals as goal
use Rattle.moc_steps.proofs.world.World.step_of_holder.Goals.{else-not-quits-via-then-not-quits+else-is_some}
use Rattle.moc_steps.proofs.world.World.step_of_holder.Goals.{else-not-quits-via-else-not-quits}
use Rattle.moc_steps.proofs.world.World.step_of_holder.Goals.{else-not-quits-2-via-then-not-quits-2+else-not-has_edited}
use Rattle.moc_steps.proofs.world.World.step_of_holder.Goals.{else-not-quits-2-via-else-not-quits-2}

pub returns-in_err-midway-clause-is : goal.returns-in_err-midway-clause-is
returns-in_err-midway-clause-is c =
    let i = c.self.inside in
    let gone : client_at batches c.args.self.now c.args.client ≡ None =
    seen_as i.begun i.clients i.parts.items i.holders i.order.items c.self.invariant c.args.client c.args.client c.args.self.now None c.self.view_is refl (sym c.in_err-midway.ensures) in
    let k = holder_holds batches c.args.self.now.locks.clients c.args.part c.args.client c.requires.0 in
    absurd (cc (gone, k.1))

pub returns-then-is_some-clause-step : goal.returns-then-is_some-clause-step
returns-then-is_some-clause-step c =
    let i = c.self.inside in
    let was : client_at batches c.args.self.now c.args.client ≡ Some c.in_ok-midway.midway.now.running =
    seen_as i.begun i.clients i.parts.items i.holders i.order.items c.self.invariant c.args.client c.args.client c.args.self.now (Some c.in_ok-midway.midway.now) c.self.view_is refl (sym c.in_ok-midway.ensures) in (
      highest_takes c.args.self.now c.args.client c.in_ok-midway.midway.now.running was c.args.part c.requires
          (ap is_some (sym c.next_part.ensures) ∙ sym c.is_some.ensures ∙ c.if-is_some.true) (sym c.quits.ensures ∙ c.if-not-quits.true),
      refl,
    )

pub returns-then-not-has_edited-clause-step : goal.returns-then-not-has_edited-clause-step
returns-then-not-has_edited-clause-step c =
    let i = c.self.inside in
    let was : client_at batches c.args.self.now c.args.client ≡ Some c.in_ok-midway.midway.now.running =
    seen_as i.begun i.clients i.parts.items i.holders i.order.items c.self.invariant c.args.client c.args.client c.args.self.now (Some c.in_ok-midway.midway.now) c.self.view_is refl (sym c.in_ok-midway.ensures) in
    let stays = sym c.quits-2.ensures ∙ c.if-not-quits-2.true in (
      highest_edits c.args.self.now c.args.client c.in_ok-midway.midway.now.running was c.args.part c.requires stays
          (elim c.else-not-quits.branch [
            | else-not-quits-via-then-not-quits+else-is_some w ↦ ap is_some (sym w.next_part.ensures) ∙ sym w.is_some.ensures ∙ w.if-is_some.false
            | else-not-quits-via-else-not-quits w ↦ absurd_bool c.in_ok-midway.midway.now.running.quits (sym c.quits.ensures ∙ w.if-not-quits.false) stays
          ])
          (sym c.has_edited.ensures ∙ c.if-not-has_edited.true),
      refl,
    )

pub returns-clause-step : goal.returns-clause-step
returns-clause-step c =
    let i = c.self.inside in
    let was : client_at batches c.args.self.now c.args.client ≡ Some c.in_ok-midway.midway.now.running =
    seen_as i.begun i.clients i.parts.items i.holders i.order.items c.self.invariant c.args.client c.args.client c.args.self.now (Some c.in_ok-midway.midway.now) c.self.view_is refl (sym c.in_ok-midway.ensures) in (
      highest_gives c.args.self.now c.args.client c.in_ok-midway.midway.now.running was c.args.part c.requires (elim c.else-not-quits-2.branch [
        | else-not-quits-2-via-then-not-quits-2+else-not-has_edited w ↦ inl (sym w.has_edited.ensures ∙ w.if-not-has_edited.false)
        | else-not-quits-2-via-else-not-quits-2 w ↦ inr (sym c.quits-2.ensures ∙ w.if-not-quits-2.false)
      ]),
      refl,
    )
