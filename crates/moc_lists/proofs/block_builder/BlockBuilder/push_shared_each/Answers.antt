use Rattle.std.proofs.Common.{◌++◌, List, ℕ, ap, sym, subst, ◌∙◌}
use Rattle.moc_blocks.specs.Blocks.{concat}
use Rattle.moc_blocks.specs.RangeList.{IsNormal}
use Rattle.moc_blocks.proofs.Building.{each_normal, each_more}
use Rattle.moc_lists.proofs.block_builder.BlockBuilder.push_shared_each.Goals as goal

pub push_block-requires-clause-normal : goal.push_block-requires-clause-normal
push_block-requires-clause-normal c =
    let now = concat (concat c.loop-block.self.nodes.items ++ c.loop-block.self.blocks.items) in
    subst (λ (b : List (ℕ × ℕ)). IsNormal (now ++ b)) (sym c.in_ok-shared.ensures.same) (each_normal c.args.blocks.now c.loop-block.block-index c.block-item.result (concat (concat c.args.self.now.nodes.items ++ c.args.self.now.blocks.items)) now c.loop-block-test.true c.block-item.is c.loop-block.invariant.2 c.requires.normal)

pub loop-block-preserved : goal.loop-block-preserved
loop-block-preserved c =
    let now = concat (concat c.loop-block.self.nodes.items ++ c.loop-block.self.blocks.items) in (
      c.in_ok-push_block.ensures.sized,
      c.in_ok-push_block.ensures.wide,
      each_more c.args.blocks.now c.loop-block.block-index c.block-item.result (concat (concat c.args.self.now.nodes.items ++ c.args.self.now.blocks.items)) now _ c.loop-block-test.true c.block-item.is c.loop-block.invariant.2 (c.in_ok-push_block.ensures.concat ∙ ap (λ (b : List (ℕ × ℕ)). now ++ b) c.in_ok-shared.ensures.same),
    )
