use Rattle.std.proofs.Common.{◌++◌, ap, sym, subst, ◌∙◌}
use Rattle.moc_blocks.specs.Blocks.{concat, AreBlocks}
use Rattle.moc_blocks.proofs.Building.{stack_with_node}
use Rattle.moc_blocks.proofs.Filling.{fill_rule_append}
use Rattle.moc_blocks.proofs.Blocking.{concat-append, IsNormal-prefix}
use Rattle.moc_blocks.proofs.Basics.{from_ok, from_two_ok}
use Rattle.moc_lists.proofs.block_builder.BlockBuilder.push_shared_node.Goals as goal

pub returns-clause-sized : goal.returns-clause-sized
returns-clause-sized c =
    let pushed = c.push_node.ensures in
    from_two_ok c.push_node.result pushed.blocks pushed.sized (λ blocks sized.
    let stack = concat c.args.self.now.nodes.items ++ c.args.self.now.blocks.items in
    let made = stack_with_node c.seal_node.new.self.nodes.items c.push_node.new.self.nodes.items c.args.node.now c.seal_node.new.self.blocks.items c.push_node.new.self.blocks.items stack c.in_ok-seal_node.ensures.blocks c.in_ok-seal_node.ensures.none blocks in
    subst AreBlocks (sym made) (fill_rule_append 128 stack c.args.node.now c.requires.sized sized c.if-not-can_push_whole.ensures))

pub returns-clause-concat : goal.returns-clause-concat
returns-clause-concat c = from_ok c.push_node.result c.push_node.ensures.blocks (λ blocks.
    let stack = concat c.args.self.now.nodes.items ++ c.args.self.now.blocks.items in
    let made = stack_with_node c.seal_node.new.self.nodes.items c.push_node.new.self.nodes.items c.args.node.now c.seal_node.new.self.blocks.items c.push_node.new.self.blocks.items stack c.in_ok-seal_node.ensures.blocks c.in_ok-seal_node.ensures.none blocks in
    ap concat made ∙ concat-append stack c.args.node.now)

pub seal_node-requires-clause-normal : goal.seal_node-requires-clause-normal
seal_node-requires-clause-normal c = IsNormal-prefix (concat (concat c.args.self.now.nodes.items ++ c.args.self.now.blocks.items)) (concat c.args.node.now) c.requires.normal
