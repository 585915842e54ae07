use Rattle.std.proofs.Common.{◌≡◌, ℕ, rules, None, Some, ◌++◌, ◌∷◌, [], IfSome, is_some, length, slice_set}
use Rattle.std.proofs.Common.{set as set_at, refl, sym, ap, subst, ◌∙◌}
use Rattle.std.specs.Option.{option_copied}
use Rattle.std.specs.FinMap as map
use Rattle.moc_lists.specs.RangeList.{NumberSet}
use Rattle.moc_parts.specs.Batches.{batches}
use Rattle.moc_steps.specs.Machine as machine
use Rattle.moc_steps.specs.Machine.{refusal, edit_refusal, world_after}
use Rattle.moc_steps.specs.Private.ClientState.{ClientState}
use Rattle.moc_steps.specs.Private.Effects.{IsApplicable}
use Rattle.moc_steps.specs.declared.table.Effect.TheVariants.{Commit}
use Rattle.moc_steps.specs.declared.step.Entry.{Entry}
use Rattle.moc_steps.specs.Played.{BatchWorld}
use Rattle.moc_steps.specs.Private.Worlds.{world_of}
use Rattle.moc_steps.proofs.Basics.{is_some_of}
use Rattle.moc_steps.proofs.AnyObject.{reached_explained}
use Rattle.moc_steps.proofs.PreservedSteps.{Goes, first_edit_goes, edit_footprint, edit_all, committed_at, table_is}
use Rattle.moc_steps.proofs.PreservedSteps.{kept_list, kept_some, is_midway}
use Rattle.moc_steps.proofs.world.World.edit.Goals as goal

pub unreachable-requires : goal.unreachable-requires
unreachable-requires c =
    let i = c.self.inside in
    is_midway i.begun i.clients i.parts.items i.holders i.order.items c.self.invariant c.args.client (λ r. edit_refusal batches r c.args.part)
    (ap (λ (w : BatchWorld). refusal batches w.locks (machine.Step.Edit c.args.client c.args.part)) c.self.view_is ∙ c.requires)
    (sym c.get.ensures ∙ ap option_copied c.in_default.is)

pub edit_committed-requires-clause-committed : goal.edit_committed-requires-clause-committed
edit_committed-requires-clause-committed c =
    let i = c.self.inside in
    committed_at i.begun i.clients i.parts.items i.holders i.order.items c.self.invariant c.args.client c.in-Some.midway.now c.args.self.now (sym c.in-Some.ensures) c.self.view_is
    (ap is_some (sym c.entry_index.ensures) ∙ sym c.is_some.ensures ∙ c.if-is_some.true)

pub prepare_update-requires : goal.prepare_update-requires
prepare_update-requires c =
    let i = c.self.inside in
    record {
      all = edit_all i.begun i.clients i.parts.items i.holders i.order.items c.self.invariant c.args.client c.args.part c.in-Some.midway.now (sym c.in-Some.ensures)
          (ap (λ (w : BatchWorld). refusal batches w.locks (machine.Step.Edit c.args.client c.args.part)) c.self.view_is ∙ c.requires);
    }

pub change-requires : goal.change-requires
change-requires c = subst (λ x. IfSome x (λ s. IsApplicable s (Commit c.in_ok-prepared_update.prepared_update c.args.part))) c.in-Some.ensures c.in_ok-prepared_update.ensures.value

pub index_mut-requires : goal.index_mut-requires
index_mut-requires c =
    let i = c.self.inside in
    let inv = reached_explained batches (world_of i.begun i.clients i.parts.items i.order.items) c.self.invariant.reached in
    let twelve : length i.parts.items ≡ 12 = inv.1.size in
    let low = c.index.ensures.in_range in search rules

edit_step : (c : goal.After-drop-index_mut) → Goes c.self.inside.begun c.self.inside.clients c.self.inside.parts.items c.self.inside.order.items (machine.Step.Edit c.args.client c.args.part) c.self.inside.begun c.change.new.self (slice_set c.self.inside.parts.items c.index.result c.in_ok-list.list) c.self.inside.holders c.push.new.self.items
edit_step c =
    let i = c.self.inside in
    let s : ClientState = c.in-Some.midway.now in
    let b : ℕ = c.args.part in
    let list : NumberSet = c.in_ok-list.list in
    let prepared_update = c.in_ok-prepared_update.prepared_update in
    let has : map.get i.clients c.args.client ≡ Some s = sym c.in-Some.ensures in
    let permitted = ap (λ (w : BatchWorld). refusal batches w.locks (machine.Step.Edit c.args.client c.args.part)) c.self.view_is ∙ c.requires in
    let fits = edit_footprint i.begun i.clients i.parts.items i.holders i.order.items c.self.invariant c.args.client b s has permitted in
    let none : s.entry_index ≡ None = is_some_of s.entry_index (ap is_some (sym c.entry_index.ensures) ∙ sym c.is_some.ensures ∙ c.if-is_some.false) in
    let place_is : prepared_update.entry_index ≡ length i.order.items = (let a : prepared_update.entry_index ≡ c.len.result = c.in_ok-prepared_update.ensures.entry_index in let d = c.len.ensures in search rules) in
    let list_is = c.in_ok-list.ensures ∙ kept_list i.begun i.clients i.parts.items i.holders i.order.items c.self.invariant s.running.operation s.taken_content c.in-Some-list.list.now prepared_update.lists b fits.0 fits.1 c.in_ok-prepared_update.ensures.value.parts c.in-Some-list.ensures in
    let entry : Entry = record { begin = c.number-begin.result; client = c.args.client; reply = None } in
    subst (λ es. Goes i.begun i.clients i.parts.items i.order.items (machine.Step.Edit c.args.client b) i.begun c.change.new.self (slice_set i.parts.items c.index.result list) i.holders es) (sym c.in_ok-push.ensures.items)
    (subst (λ k. Goes i.begun i.clients i.parts.items i.order.items (machine.Step.Edit c.args.client b) i.begun c.change.new.self (slice_set i.parts.items k list) i.holders (i.order.items ++ entry ∷ [])) (sym c.index.ensures.value)
    (subst (λ m. Goes i.begun i.clients i.parts.items i.order.items (machine.Step.Edit c.args.client b) i.begun m (set_at i.parts.items b list) i.holders (i.order.items ++ entry ∷ []))
    (sym (c.change.ensures ∙ table_is i.clients c.args.client s (Commit prepared_update b) has))
    (first_edit_goes i.begun i.clients i.parts.items i.holders i.order.items c.self.invariant c.args.client b s prepared_update.entry_index list entry has none place_is c.number-begin.ensures refl refl list_is permitted)))

pub invariant_of-self-2 : goal.invariant_of-self-2
invariant_of-self-2 c = (edit_step c).1

pub returns-clause-after : goal.returns-clause-after
returns-clause-after c = (edit_step c).0 ∙ ap (λ w. world_after batches w (machine.Step.Edit c.args.client c.args.part)) c.self.view_is

pub unreachable-requires-in_default-list : goal.unreachable-requires-in_default-list
unreachable-requires-in_default-list c =
    let i = c.self.inside in
    let s : ClientState = c.in-Some.midway.now in
    let fits = edit_footprint i.begun i.clients i.parts.items i.holders i.order.items c.self.invariant c.args.client c.args.part s (sym c.in-Some.ensures)
    (ap (λ (w : BatchWorld). refusal batches w.locks (machine.Step.Edit c.args.client c.args.part)) c.self.view_is ∙ c.requires) in
    kept_some i.begun i.clients i.parts.items i.holders i.order.items c.self.invariant s.running.operation s.taken_content c.in_ok-prepared_update.prepared_update.lists c.args.part fits.0 fits.1 c.in_ok-prepared_update.ensures.value.parts
    (sym c.list.ensures ∙ ap option_copied c.in_default-list.is)
