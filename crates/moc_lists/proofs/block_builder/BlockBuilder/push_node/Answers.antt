use Rattle.std.proofs.Common.{◌++◌, ◌∷◌, [], List, ℕ, ap, ◌∙◌}
use Rattle.moc_blocks.proofs.Filling.{some_blocks, nodes_added, nodes_added_all}
use Rattle.moc_lists.proofs.block_builder.BlockBuilder.push_node.Goals as goal

pub returns-clause-blocks : goal.returns-clause-blocks
returns-clause-blocks c =
    let ns = c.args.self.now.nodes.items in
    nodes_added_all ns c.push.new.self.items c.args.self.now.blocks.items c.args.node.now c.requires.none (c.in_ok-push.ensures.items ∙ ap (λ (n : List (List (ℕ × ℕ))). ns ++ n ∷ []) c.in_ok-shared.ensures.same)

pub returns-clause-wide : goal.returns-clause-wide
returns-clause-wide c =
    let ns = c.args.self.now.nodes.items in
    nodes_added ns c.push.new.self.items c.args.self.now.blocks.items c.args.node.now c.requires.wide (c.in_ok-push.ensures.items ∙ ap (λ (n : List (List (ℕ × ℕ))). ns ++ n ∷ []) c.in_ok-shared.ensures.same) c.if-fits_last_node.ensures (some_blocks c.args.node.now c.in_ok-shared.ensures.some) c.in_ok-shared.ensures.fits
