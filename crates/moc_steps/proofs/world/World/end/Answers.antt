use Rattle.std.proofs.Common.{rules, ◌<◌, Some, length, is_some, slice_set, sym, ap, subst, ◌∙◌}
use Rattle.moc_parts.specs.Batches.{batches}
use Rattle.moc_steps.specs.Machine as machine
use Rattle.moc_steps.specs.Machine.{refusal, end_refusal, world_after, reply_to}
use Rattle.moc_steps.specs.Played.{BatchWorld}
use Rattle.moc_steps.proofs.PreservedSteps.{Goes, is_midway}
use Rattle.moc_steps.proofs.EndGoes.{entry_with_replies, read_at, quit_ends, quit_silent, entry_place, done_ends}
use Rattle.moc_steps.proofs.EndGoes.{done_tells}
use Rattle.moc_steps.specs.Theorems.{RepliesByEntry}
use Rattle.moc_steps.proofs.AnyObject.{reached_replies}
use Rattle.moc_steps.specs.Private.Worlds.{world_of}
use Rattle.moc_steps.proofs.world.World.end.Goals as goal

pub invariant_of-self : goal.invariant_of-self
invariant_of-self c =
    let i = c.self.inside in
    is_midway i.begun i.clients i.parts.items i.holders i.order.items c.self.invariant c.args.client (end_refusal batches)
    (ap (λ (w : BatchWorld). refusal batches w.locks (machine.Step.End c.args.client)) c.self.view_is ∙ c.requires) (sym c.in_err-midway.ensures.client)

pub returns-in_err-midway-clause-after : goal.returns-in_err-midway-clause-after
returns-in_err-midway-clause-after c =
    let i = c.self.inside in
    is_midway i.begun i.clients i.parts.items i.holders i.order.items c.self.invariant c.args.client (end_refusal batches)
    (ap (λ (w : BatchWorld). refusal batches w.locks (machine.Step.End c.args.client)) c.self.view_is ∙ c.requires) (sym c.in_err-midway.ensures.client)

pub returns-in_err-midway-clause-reply : goal.returns-in_err-midway-clause-reply
returns-in_err-midway-clause-reply c =
    let i = c.self.inside in
    is_midway i.begun i.clients i.parts.items i.holders i.order.items c.self.invariant c.args.client (end_refusal batches)
    (ap (λ (w : BatchWorld). refusal batches w.locks (machine.Step.End c.args.client)) c.self.view_is ∙ c.requires) (sym c.in_err-midway.ensures.client)

pub invariant_of-self-in_err-prepared_update : goal.invariant_of-self-in_err-prepared_update
invariant_of-self-in_err-prepared_update c =
    let i = c.self.inside in
    (subst (λ m. Goes i.begun i.clients i.parts.items i.order.items (machine.Step.End c.args.client) i.begun m i.parts.items i.holders i.order.items) (sym c.in_ok-midway.ensures.removed)
    (quit_ends i.begun i.clients i.parts.items i.holders i.order.items c.self.invariant c.args.client c.in_ok-midway.midway (sym c.in_ok-midway.ensures.client) (sym c.in_err-prepared_update.ensures.entry_index)
    (ap (λ (w : BatchWorld). refusal batches w.locks (machine.Step.End c.args.client)) c.self.view_is ∙ c.requires))).1

pub returns-in_err-prepared_update-clause-after : goal.returns-in_err-prepared_update-clause-after
returns-in_err-prepared_update-clause-after c =
    let i = c.self.inside in
    (subst (λ m. Goes i.begun i.clients i.parts.items i.order.items (machine.Step.End c.args.client) i.begun m i.parts.items i.holders i.order.items) (sym c.in_ok-midway.ensures.removed)
    (quit_ends i.begun i.clients i.parts.items i.holders i.order.items c.self.invariant c.args.client c.in_ok-midway.midway (sym c.in_ok-midway.ensures.client) (sym c.in_err-prepared_update.ensures.entry_index)
    (ap (λ (w : BatchWorld). refusal batches w.locks (machine.Step.End c.args.client)) c.self.view_is ∙ c.requires))).0
    ∙ ap (λ w. world_after batches w (machine.Step.End c.args.client)) c.self.view_is

pub returns-in_err-prepared_update-clause-reply : goal.returns-in_err-prepared_update-clause-reply
returns-in_err-prepared_update-clause-reply c =
    let i = c.self.inside in
    c.from_residual-in_err-prepared_update.ensures
    ∙ sym (quit_silent i.begun i.clients i.parts.items i.holders i.order.items c.self.invariant c.args.client c.in_ok-midway.midway (sym c.in_ok-midway.ensures.client) (sym c.in_err-prepared_update.ensures.entry_index)
    (ap (λ (w : BatchWorld). refusal batches w.locks (machine.Step.End c.args.client)) c.self.view_is ∙ c.requires))
    ∙ ap (λ w. reply_to batches w (machine.Step.End c.args.client)) c.self.view_is

pub index_mut-requires : goal.index_mut-requires
index_mut-requires c =
    let i = c.self.inside in
    let low : c.entry_index-entry_index.result < length i.order.items = entry_place i.begun i.clients i.parts.items i.holders i.order.items c.self.invariant c.args.client c.in_ok-midway.midway c.entry_index-entry_index.result (sym c.in_ok-midway.ensures.client) (sym (ap (λ n. Some n) c.entry_index-entry_index.ensures ∙ c.in_ok-prepared_update.ensures.entry_index)) in search rules

end_step : (c : goal.Joined-index_mut) → Goes c.self.inside.begun c.self.inside.clients c.self.inside.parts.items c.self.inside.order.items (machine.Step.End c.args.client) c.self.inside.begun c.remove.new.self c.self.inside.parts.items c.self.inside.holders (slice_set c.self.inside.order.items c.entry_index-entry_index.result (entry_with_replies c.index_mut.result.now c.into_replies-replies.result.1))
end_step c =
    let i = c.self.inside in
    let has = sym c.in_ok-midway.ensures.client in
    let at = sym (ap (λ n. Some n) c.entry_index-entry_index.ensures ∙ c.in_ok-prepared_update.ensures.entry_index) in
    let low = entry_place i.begun i.clients i.parts.items i.holders i.order.items c.self.invariant c.args.client c.in_ok-midway.midway c.entry_index-entry_index.result has at in
    subst (λ m. Goes i.begun i.clients i.parts.items i.order.items (machine.Step.End c.args.client) i.begun m i.parts.items i.holders (slice_set i.order.items c.entry_index-entry_index.result (entry_with_replies c.index_mut.result.now c.into_replies-replies.result.1))) (sym c.in_ok-midway.ensures.removed)
    (done_ends i.begun i.clients i.parts.items i.holders i.order.items c.self.invariant c.args.client c.in_ok-midway.midway c.entry_index-entry_index.result c.index_mut.result.now c.into_replies-replies.result.1 has at
    (read_at i.order.items c.entry_index-entry_index.result c.index_mut.result.now low c.index_mut.ensures.value)
    (ap (λ p. p.1) c.into_replies-replies.ensures ∙ c.in_ok-prepared_update.ensures.value.replied)
    (ap (λ (w : BatchWorld). refusal batches w.locks (machine.Step.End c.args.client)) c.self.view_is ∙ c.requires))

pub invariant_of-self-2 : goal.invariant_of-self-2
invariant_of-self-2 c = (end_step c).1

pub returns-clause-after : goal.returns-clause-after
returns-clause-after c = (end_step c).0 ∙ ap (λ w. world_after batches w (machine.Step.End c.args.client)) c.self.view_is

pub returns-clause-reply : goal.returns-clause-reply
returns-clause-reply c =
    let i = c.self.inside in
    done_tells i.begun i.clients i.parts.items i.holders i.order.items c.self.invariant c.args.client c.in_ok-midway.midway c.into_replies-replies.result.0 (sym c.in_ok-midway.ensures.client) (ap is_some (sym (ap (λ n. Some n) c.entry_index-entry_index.ensures ∙ c.in_ok-prepared_update.ensures.entry_index)))
    (ap (λ p. p.0) c.into_replies-replies.ensures ∙ c.in_ok-prepared_update.ensures.value.replied)
    ∙ ap (λ w. reply_to batches w (machine.Step.End c.args.client)) c.self.view_is

pub returns-in_err-midway-clause-entry : goal.returns-in_err-midway-clause-entry
returns-in_err-midway-clause-entry c =
    let i = c.self.inside in
    let permitted = ap (λ (w : BatchWorld). refusal batches w.locks (machine.Step.End c.args.client)) c.self.view_is ∙ c.requires in
    subst (λ w. RepliesByEntry batches w (machine.Step.End c.args.client)) c.self.view_is
    (reached_replies batches (world_of i.begun i.clients i.parts.items i.order.items) c.self.invariant.reached (machine.Step.End c.args.client) permitted)

pub returns-in_err-prepared_update-clause-entry : goal.returns-in_err-prepared_update-clause-entry
returns-in_err-prepared_update-clause-entry c =
    let i = c.self.inside in
    let permitted = ap (λ (w : BatchWorld). refusal batches w.locks (machine.Step.End c.args.client)) c.self.view_is ∙ c.requires in
    subst (λ w. RepliesByEntry batches w (machine.Step.End c.args.client)) c.self.view_is
    (reached_replies batches (world_of i.begun i.clients i.parts.items i.order.items) c.self.invariant.reached (machine.Step.End c.args.client) permitted)

pub returns-clause-entry : goal.returns-clause-entry
returns-clause-entry c =
    let i = c.self.inside in
    let permitted = ap (λ (w : BatchWorld). refusal batches w.locks (machine.Step.End c.args.client)) c.self.view_is ∙ c.requires in
    subst (λ w. RepliesByEntry batches w (machine.Step.End c.args.client)) c.self.view_is
    (reached_replies batches (world_of i.begun i.clients i.parts.items i.order.items) c.self.invariant.reached (machine.Step.End c.args.client) permitted)
