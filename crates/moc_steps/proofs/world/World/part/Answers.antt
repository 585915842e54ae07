use Rattle.std.proofs.Common.{◌≡◌, ◌<◌, rules, length, get_or, subst, sym, ap, ◌∙◌}
use Rattle.std.specs.FinSet as set
use Rattle.moc_parts.specs.Batches.{batches}
use Rattle.moc_steps.specs.Machine.{part_at}
use Rattle.moc_steps.specs.Played.{BatchWorld}
use Rattle.moc_steps.specs.Private.Worlds.{world_of}
use Rattle.moc_steps.proofs.AnyObject.{reached_explained}
use Rattle.moc_steps.proofs.TakenContents.{same_default}
use Rattle.moc_steps.proofs.world.World.part.Goals as goal

pub index-requires-2 : goal.index-requires-2
index-requires-2 c =
    let i = c.self.inside in
    let inv = reached_explained batches (world_of i.begun i.clients i.parts.items i.order.items) c.self.invariant.reached in
    let twelve : length i.parts.items ≡ 12 = inv.1.size in
    let low = c.index.ensures.in_range in search rules

pub returns : goal.returns
returns c =
    let i = c.self.inside in
    let inv = reached_explained batches (world_of i.begun i.clients i.parts.items i.order.items) c.self.invariant.reached in
    c.list.ensures ∙ c.index-2.ensures ∙ ap (λ b. get_or i.parts.items b c.index-2.result.now) c.index.ensures.value
    ∙ same_default i.parts.items c.args.part c.index-2.result.now set.empty (subst (λ n. c.args.part < n) (sym inv.1.size) (subst (λ k. k < 12) c.index.ensures.value c.index.ensures.in_range))
    ∙ ap (λ (w : BatchWorld). part_at batches w c.args.part) c.self.view_is
