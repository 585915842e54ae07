use Rattle.std.proofs.Common.{length, ap, ◌∙◌, arith}
use Rattle.moc_blocks.specs.Private.Built.{GrowingList, ranges_of}
use Rattle.moc_blocks.proofs.Building.{fill_rule_of_builder}
use Rattle.moc_lists.proofs.builder.ListBuilder.fill.Goals as goal

pub invariant_of-self-2 : goal.invariant_of-self-2
invariant_of-self-2 c =
    fill_rule_of_builder c.self.inside.blocks.nodes.items c.self.inside.blocks.blocks.items c.self.inside.ranges.items _ _ c.args.ranges.now c.min-count.result c.self.invariant
    (ap ranges_of c.self.view_is ∙ c.in_ok-seal_if_full.ensures.appended) c.in_ok-extend_from_slice.ensures.items
    (omega (arith, ap (λ (g : GrowingList). length g.loose) c.self.view_is, c.in_ok-seal_if_full.ensures.capacity)) c.requires.normal
