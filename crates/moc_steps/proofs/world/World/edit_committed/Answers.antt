use Rattle.std.proofs.Common.{◌≡◌, cond, Bool, ◌++◌, ◌∷◌, [], true, None, Some, Option, rules, IfSome, IsSome}
use Rattle.std.proofs.Common.{is_some, length, slice_set, set as set_at, refl, sym, ap, subst, ◌∙◌}
use Rattle.std.specs.Option.{option_copied}
use Rattle.std.specs.FinMap as map
use Rattle.moc_ranges.specs.Operations.{part_of}
use Rattle.moc_parts.specs.Batches.{batches, set_after_all}
use Rattle.moc_steps.specs.Machine as machine
use Rattle.moc_steps.specs.Machine.{refusal, edit_refusal, is_nonempty, world_after}
use Rattle.moc_steps.specs.Private.ClientState.{ClientState}
use Rattle.moc_steps.specs.Private.Effects.{client_after, IsApplicable}
use Rattle.moc_steps.specs.declared.table.Effect.TheVariants.{Edit}
use Rattle.moc_steps.specs.Played.{BatchWorld, entries_of}
use Rattle.moc_steps.specs.Private.Worlds.{world_of}
use Rattle.moc_steps.proofs.Basics.{some_same}
use Rattle.moc_steps.proofs.AnyObject.{reached_explained}
use Rattle.moc_steps.proofs.PreservedSteps.{Goes, edit_goes, edit_footprint, has_place, any_edited, edited_place, is_midway}
use Rattle.moc_steps.proofs.PreservedSteps.{table_is}
use Rattle.moc_steps.proofs.world.World.edit_committed.Goals as goal

is_Some : {A : Type 0} (x : Option A) → is_some x ≡ true → IsSome x
is_Some x h = h

some_is : {A : Type 0} (a b : A) → Some a ≡ Some b → a ≡ b
some_is a b e = some_same (Some a) a b refl e

pub unreachable-requires : goal.unreachable-requires
unreachable-requires c =
    let i = c.self.inside in
    is_midway i.begun i.clients i.parts.items i.holders i.order.items c.self.invariant c.args.client (λ r. edit_refusal batches r c.args.part)
    (ap (λ (w : BatchWorld). refusal batches w.locks (machine.Step.Edit c.args.client c.args.part)) c.self.view_is ∙ c.requires.permitted)
    (sym c.get.ensures ∙ ap option_copied c.in_default.is)

has_edited_part : (c : goal.In-Some) → is_nonempty c.in-Some.midway.now.running.edited ≡ true
has_edited_part c =
    let i = c.self.inside in
    any_edited i.begun i.clients i.parts.items i.holders i.order.items c.self.invariant c.args.client c.in-Some.midway.now c.args.self.now (sym c.in-Some.ensures) c.self.view_is c.requires.committed

pub new_list-requires-clause-value : goal.new_list-requires-clause-value
new_list-requires-clause-value c =
    let i = c.self.inside in
    is_Some c.in-Some.midway.now.entry_index (has_place i.begun i.clients i.parts.items i.holders i.order.items c.self.invariant c.args.client c.in-Some.midway.now (sym c.in-Some.ensures) (has_edited_part c))

pub new_list-requires-clause-part : goal.new_list-requires-clause-part
new_list-requires-clause-part c =
    let i = c.self.inside in
    (edit_footprint i.begun i.clients i.parts.items i.holders i.order.items c.self.invariant c.args.client c.args.part c.in-Some.midway.now (sym c.in-Some.ensures)
    (ap (λ (w : BatchWorld). refusal batches w.locks (machine.Step.Edit c.args.client c.args.part)) c.self.view_is ∙ c.requires.permitted)).1

pub change-requires : goal.change-requires
change-requires c =
    let i = c.self.inside in
    let has : map.get i.clients c.args.client ≡ Some c.in-Some.midway.now = sym c.in-Some.ensures in
    let edited = any_edited i.begun i.clients i.parts.items i.holders i.order.items c.self.invariant c.args.client c.in-Some.midway.now c.args.self.now has c.self.view_is c.requires.committed in
    subst (λ x. IfSome x (λ s. IsApplicable s (Edit c.args.part))) (sym has) (has_place i.begun i.clients i.parts.items i.holders i.order.items c.self.invariant c.args.client c.in-Some.midway.now has edited)

pub index_mut-requires : goal.index_mut-requires
index_mut-requires c =
    let i = c.self.inside in
    let inv = reached_explained batches (world_of i.begun i.clients i.parts.items i.order.items) c.self.invariant.reached in
    let twelve : length i.parts.items ≡ 12 = inv.1.size in
    let low = c.index.ensures.in_range in search rules

edit_committed_step : (c : goal.After-drop-index_mut) → Goes c.self.inside.begun c.self.inside.clients c.self.inside.parts.items c.self.inside.order.items (machine.Step.Edit c.args.client c.args.part) c.self.inside.begun c.change.new.self (slice_set c.self.inside.parts.items c.index.result c.in_ok-list.list) c.self.inside.holders c.self.inside.order.items
edit_committed_step c =
    let i = c.self.inside in
    let s : ClientState = c.in-Some.midway.now in
    let has : map.get i.clients c.args.client ≡ Some s = sym c.in-Some.ensures in
    let list_is : c.in_ok-list.list ≡ part_of (set_after_all s.taken_content s.running.operation) c.args.part = c.in_ok-list.ensures ∙ some_is _ _ c.in-Some-new_list.ensures in
    let edited = any_edited i.begun i.clients i.parts.items i.holders i.order.items c.self.invariant c.args.client s c.args.self.now has c.self.view_is c.requires.committed in
    subst (λ k. Goes i.begun i.clients i.parts.items i.order.items (machine.Step.Edit c.args.client c.args.part) i.begun c.change.new.self (slice_set i.parts.items k c.in_ok-list.list) i.holders i.order.items) (sym c.index.ensures.value)
    (subst (λ m. Goes i.begun i.clients i.parts.items i.order.items (machine.Step.Edit c.args.client c.args.part) i.begun m (set_at i.parts.items c.args.part c.in_ok-list.list) i.holders i.order.items)
    (sym (c.change.ensures ∙ table_is i.clients c.args.client s (Edit c.args.part) has))
    (edit_goes i.begun i.clients i.parts.items i.holders i.order.items c.self.invariant c.args.client c.args.part s (client_after s (Edit c.args.part)) c.in_ok-list.list i.order.items has refl refl list_is
    (sym (ap (λ (t : Bool). cond t (entries_of i.order.items) (entries_of i.order.items ++ record { begin = s.running.number; client = c.args.client; reply = None } ∷ [])) edited))
    (edited_place i.begun i.clients i.parts.items i.holders i.order.items c.self.invariant c.args.client c.args.part s has edited) c.self.invariant.placed
    (ap (λ (w : BatchWorld). refusal batches w.locks (machine.Step.Edit c.args.client c.args.part)) c.self.view_is ∙ c.requires.permitted)))

pub invariant_of-self : goal.invariant_of-self
invariant_of-self c = (edit_committed_step c).1

pub returns-clause-after : goal.returns-clause-after
returns-clause-after c = (edit_committed_step c).0 ∙ ap (λ w. world_after batches w (machine.Step.Edit c.args.client c.args.part)) c.self.view_is
