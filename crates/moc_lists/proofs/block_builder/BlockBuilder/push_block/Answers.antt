use Rattle.std.proofs.Common.{◌++◌, length, arith, ap, sym, subst, ◌∙◌}
use Rattle.moc_blocks.specs.Blocks.{concat, AreBlocks}
use Rattle.moc_blocks.proofs.Building.{blocks_after_append_to_last, concat_after_append_to_last, suffix_normal, last_length-suffix, pushed_all}
use Rattle.moc_blocks.proofs.Filling.{fill_rule_add}
use Rattle.moc_blocks.proofs.Blocking.{concat-last, IsNormal-prefix}
use Rattle.moc_blocks.proofs.Basics.{from_ok}
use Rattle.moc_lists.proofs.block_builder.BlockBuilder.push_block.Goals as goal

pub merge_with_last-requires-clause-normal : goal.merge_with_last-requires-clause-normal
merge_with_last-requires-clause-normal c = suffix_normal (concat c.reopen.new.self.nodes.items) c.reopen.new.self.blocks.items _ c.args.block c.in_ok-reopen.ensures.blocks c.requires.normal

pub merge_with_last-requires-clause-capacity : goal.merge_with_last-requires-clause-capacity
merge_with_last-requires-clause-capacity c =
    let some = c.in_ok-reopen.ensures.some c.if-fits_last_block.ensures.some in
    let same = last_length-suffix (concat c.reopen.new.self.nodes.items) c.reopen.new.self.blocks.items _ c.in_ok-reopen.ensures.blocks some in
    omega (arith, same, c.if-fits_last_block.ensures.fits, ap length c.ranges-2.ensures.value)

pub returns-then-fits_last_block-clause-sized : goal.returns-then-fits_last_block-clause-sized
returns-then-fits_last_block-clause-sized c = from_ok c.merge_with_last.result c.merge_with_last.ensures.joined (λ j.
    blocks_after_append_to_last (concat c.reopen.new.self.nodes.items) j.0 c.reopen.new.self.blocks.items c.merge_with_last.new.blocks.items _ j.1 c.args.block c.in_ok-reopen.ensures.blocks c.requires.sized j.2 j.3 (omega (arith, c.if-fits_last_block.ensures.fits, ap length c.ranges-2.ensures.value)))

pub returns-then-fits_last_block-clause-concat : goal.returns-then-fits_last_block-clause-concat
returns-then-fits_last_block-clause-concat c = from_ok c.merge_with_last.result c.merge_with_last.ensures.joined (λ j.
    concat_after_append_to_last (concat c.reopen.new.self.nodes.items) j.0 c.reopen.new.self.blocks.items c.merge_with_last.new.blocks.items _ j.1 c.args.block c.in_ok-reopen.ensures.blocks j.2 j.3)

pub seal_node_if_full-requires-clause-normal : goal.seal_node_if_full-requires-clause-normal
seal_node_if_full-requires-clause-normal c = IsNormal-prefix (concat (concat c.args.self.now.nodes.items ++ c.args.self.now.blocks.items)) c.args.block c.requires.normal

pub returns-clause-sized : goal.returns-clause-sized
returns-clause-sized c =
    let made = pushed_all (concat c.seal_node_if_full.new.self.nodes.items) c.seal_node_if_full.new.self.blocks.items c.push.new.self.items (concat c.args.self.now.nodes.items ++ c.args.self.now.blocks.items) c.args.block c.in_ok-seal_node_if_full.ensures.blocks c.in_ok-push.ensures.items in
    subst AreBlocks (sym made) (fill_rule_add 128 _ c.args.block c.requires.sized (λ some. omega (arith, c.if-fits_last_block.ensures.apart some, ap length c.ranges-2.ensures.value)) c.requires.some c.requires.fits)

pub returns-clause-concat : goal.returns-clause-concat
returns-clause-concat c =
    let made = pushed_all (concat c.seal_node_if_full.new.self.nodes.items) c.seal_node_if_full.new.self.blocks.items c.push.new.self.items (concat c.args.self.now.nodes.items ++ c.args.self.now.blocks.items) c.args.block c.in_ok-seal_node_if_full.ensures.blocks c.in_ok-push.ensures.items in
    ap concat made ∙ concat-last (concat c.args.self.now.nodes.items ++ c.args.self.now.blocks.items) c.args.block
