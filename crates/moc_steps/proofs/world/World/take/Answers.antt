use Rattle.std.proofs.Common.{◌≡◌, ◌<◌, ℕ, rules, IfSome, None, Some, length, get_or, slice_set, sym, ap, subst, ◌∙◌}
use Rattle.std.specs.Option.{option_copied}
use Rattle.std.specs.Result.{result_ok}
use Rattle.std.specs.FinSet as set
use Rattle.moc_parts.specs.Batches.{batches}
use Rattle.moc_steps.specs.Machine as machine
use Rattle.moc_steps.specs.Machine.{refusal, take_refusal, next_part, world_after}
use Rattle.moc_steps.specs.Private.ClientState.{ClientState}
use Rattle.moc_steps.specs.Private.Effects.{IsApplicable}
use Rattle.moc_steps.specs.declared.table.Effect.TheVariants.{Take}
use Rattle.moc_steps.specs.Played.{BatchWorld}
use Rattle.moc_steps.specs.Private.Worlds.{world_of}
use Rattle.moc_steps.proofs.AnyObject.{reached_explained}
use Rattle.moc_steps.proofs.TakenContents.{same_default}
use Rattle.moc_steps.proofs.PreservedSteps.{Goes, take_goes, take_asks, is_midway, may_take}
use Rattle.moc_steps.proofs.world.World.take.Goals as goal

pub index-requires-2 : goal.index-requires-2
index-requires-2 c =
    let i = c.self.inside in
    let inv = reached_explained batches (world_of i.begun i.clients i.parts.items i.order.items) c.self.invariant.reached in
    let twelve : length i.parts.items ≡ 12 = inv.1.size in
    let low = c.index.ensures.in_range in search rules

list_is : (c : goal.After-change-arg-1) → c.in_ok-list.list ≡ get_or c.self.inside.parts.items c.in_ok-part.part set.empty
list_is c =
    let items = c.self.inside.parts.items in
    let inv = reached_explained batches (world_of c.self.inside.begun c.self.inside.clients items c.self.inside.order.items) c.self.invariant.reached in
    c.in_ok-list.ensures ∙ c.index-2.ensures ∙ ap (λ b. get_or items b c.index-2.result.now) c.index.ensures.value
    ∙ same_default items c.in_ok-part.part c.index-2.result.now set.empty (subst (λ n. c.in_ok-part.part < n) (sym inv.1.size) (subst (λ k. k < 12) c.index.ensures.value c.index.ensures.in_range))

pub change-requires : goal.change-requires
change-requires c =
    let i = c.self.inside in
    let s : ClientState = c.in_ok-midway.midway.now in
    subst (λ x. IfSome x (λ s. IsApplicable s (Take c.in_ok-part.part c.in_ok-list.list))) (sym (sym c.get.ensures ∙ ap option_copied (c.ok_or.ensures.ok_part ∙ ap result_ok c.in_ok-midway.was)))
    (take_asks i.begun i.clients i.parts.items i.holders i.order.items c.self.invariant c.args.client c.in_ok-part.part s c.in_ok-list.list (sym c.get.ensures ∙ ap option_copied (c.ok_or.ensures.ok_part ∙ ap result_ok c.in_ok-midway.was)) c.in_ok-part.ensures.next (list_is c))

goes : (c : goal.After-way_told-1) → Goes c.self.inside.begun c.self.inside.clients c.self.inside.parts.items c.self.inside.order.items (machine.Step.Take c.args.client) c.self.inside.begun c.change.new.self c.self.inside.parts.items (slice_set c.self.inside.holders c.index-3.result (Some c.args.client)) c.self.inside.order.items
goes c =
    let i = c.self.inside in
    let s : ClientState = c.in_ok-midway.midway.now in
    let q : ℕ = c.in_ok-part.part in
    let twelve : length i.holders ≡ 12 = search rules in
    let is : c.in_ok-list.list ≡ get_or i.parts.items q set.empty =
    (let items = i.parts.items in
    let inv = reached_explained batches (world_of i.begun i.clients items i.order.items) c.self.invariant.reached in
    c.in_ok-list.ensures ∙ c.index-2.ensures ∙ ap (λ b. get_or items b c.index-2.result.now) c.index.ensures.value
    ∙ same_default items q c.index-2.result.now set.empty (subst (λ n. q < n) (sym inv.1.size) (subst (λ k. k < 12) c.index.ensures.value c.index.ensures.in_range))) in
    subst (λ k. Goes i.begun i.clients i.parts.items i.order.items (machine.Step.Take c.args.client) i.begun c.change.new.self i.parts.items (slice_set i.holders k (Some c.args.client)) i.order.items) (sym c.index-3.ensures.value)
    (subst (λ m. Goes i.begun i.clients i.parts.items i.order.items (machine.Step.Take c.args.client) i.begun m i.parts.items (slice_set i.holders q (Some c.args.client)) i.order.items) (sym c.change.ensures)
    (take_goes i.begun i.clients i.parts.items i.holders i.order.items c.self.invariant c.args.client q s c.in_ok-list.list (sym c.get.ensures ∙ ap option_copied (c.ok_or.ensures.ok_part ∙ ap result_ok c.in_ok-midway.was)) c.in_ok-part.ensures.next is twelve
    (ap (λ (w : BatchWorld). refusal batches w.locks (machine.Step.Take c.args.client)) c.self.view_is ∙ c.requires)))

pub invariant_of-self : goal.invariant_of-self
invariant_of-self c = (goes c).1

pub returns-clause-after : goal.returns-clause-after
returns-clause-after c = (goes c).0 ∙ ap (λ w. world_after batches w (machine.Step.Take c.args.client)) c.self.view_is

pub returns-in_err-midway-clause-failure : goal.returns-in_err-midway-clause-failure
returns-in_err-midway-clause-failure c =
    let i = c.self.inside in
    is_midway i.begun i.clients i.parts.items i.holders i.order.items c.self.invariant c.args.client (take_refusal batches (world_of i.begun i.clients i.parts.items i.order.items).locks)
    (ap (λ (w : BatchWorld). refusal batches w.locks (machine.Step.Take c.args.client)) c.self.view_is ∙ c.requires)
    (sym c.get.ensures ∙ ap option_copied (c.ok_or.ensures.ok_part ∙ ap result_ok c.in_err-midway.was))

pub returns-in_err-part-clause-failure : goal.returns-in_err-part-clause-failure
returns-in_err-part-clause-failure c =
    let i = c.self.inside in
    let s : ClientState = c.in_ok-midway.midway.now in
    let free : take_refusal batches c.args.self.now.locks s.running ≡ None =
    sym (ap (λ (w : BatchWorld). take_refusal batches w.locks s.running) c.self.view_is)
    ∙ may_take i.begun i.clients i.parts.items i.holders i.order.items c.self.invariant c.args.client s (sym c.get.ensures ∙ ap option_copied (c.ok_or.ensures.ok_part ∙ ap result_ok c.in_ok-midway.was))
    (ap (λ (w : BatchWorld). refusal batches w.locks (machine.Step.Take c.args.client)) c.self.view_is ∙ c.requires) in
    let refused = c.in_err-part.ensures.failure in absurd (cc (free, refused))
