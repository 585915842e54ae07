use Rattle.std.proofs.Common.{length, ap, ◌∙◌, arith}
use Rattle.moc_blocks.specs.Private.Built.{GrowingList, ranges_of}
use Rattle.moc_blocks.proofs.Building.{builder_state_after_push}
use Rattle.moc_lists.proofs.builder.ListBuilder.push.Goals as goal

pub invariant_of-self-2 : goal.invariant_of-self-2
invariant_of-self-2 c =
    (builder_state_after_push c.self.inside.blocks.nodes.items c.self.inside.blocks.blocks.items c.self.inside.ranges.items c.push.new.self.items _ (c.args.from, c.args.to) c.self.invariant
    (ap ranges_of c.self.view_is ∙ c.in_ok-seal_if_full.ensures.appended) (omega (arith, ap (λ (g : GrowingList). length g.loose) c.self.view_is, c.in_ok-seal_if_full.ensures.capacity))
    c.in_ok-push.ensures.items c.requires.filled c.requires.within c.requires.after)

pub returns-clause-built : goal.returns-clause-built
returns-clause-built c =
    (builder_state_after_push c.self.inside.blocks.nodes.items c.self.inside.blocks.blocks.items c.self.inside.ranges.items c.push.new.self.items _ (c.args.from, c.args.to) c.self.invariant
    (ap ranges_of c.self.view_is ∙ c.in_ok-seal_if_full.ensures.appended) (omega (arith, ap (λ (g : GrowingList). length g.loose) c.self.view_is, c.in_ok-seal_if_full.ensures.capacity))
    c.in_ok-push.ensures.items c.requires.filled c.requires.within c.requires.after).normal
