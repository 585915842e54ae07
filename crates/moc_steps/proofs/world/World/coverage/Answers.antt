use Rattle.std.proofs.Common.{length, ap, ◌∙◌}
use Rattle.moc_parts.specs.Batches.{batches}
use Rattle.moc_parts.specs.Parts.{union_of}
use Rattle.moc_steps.specs.Machine.{whole}
use Rattle.moc_steps.specs.Played.{BatchWorld}
use Rattle.moc_steps.specs.Private.Worlds.{world_of}
use Rattle.moc_steps.proofs.AnyObject.{reached_explained}
use Rattle.moc_steps.proofs.world.World.coverage.Goals as goal

pub lists-requires : goal.lists-requires
lists-requires c =
    let i = c.self.inside in
    let inv = reached_explained batches (world_of i.begun i.clients i.parts.items i.order.items) c.self.invariant.reached in
    ap length c.deref.ensures.value ∙ inv.1.size

pub returns-in-Ok-clause-covered : goal.returns-in-Ok-clause-covered
returns-in-Ok-clause-covered c =
    c.in-Ok.ensures ∙ ap union_of (c.lists.ensures ∙ c.deref.ensures.value) ∙ ap (λ (w : BatchWorld). whole batches w) c.self.view_is
