use Rattle.std.proofs.Common.{◌++◌, ◌∷◌, [], sym, ◌∙◌}
use Rattle.std.proofs.lemmas.List.{take_more, take_all}
use Rattle.moc_blocks.proofs.node.share_blocks.Goals as goal

pub loop-block-preserved : goal.loop-block-preserved
loop-block-preserved c =
    let same = c.in_ok-share.ensures.same ∙ c.block-item.is in
    c.in_ok-push.ensures.items
    ∙ (λ i. c.loop-block.invariant i ++ same i ∷ [])
    ∙ sym (take_more c.args.blocks.now c.loop-block.block-index c.block-item.result c.loop-block-test.true)

pub returns : goal.returns
returns c = c.loop-block.invariant ∙ take_all c.loop-block.block-index c.args.blocks.now c.loop-block-test.false
