use Rattle.std.proofs.Common.{◌++◌, ◌∷◌, [], sym, ◌∙◌}
use Rattle.std.proofs.lemmas.List.{take_more, take_all}
use Rattle.moc_blocks.proofs.node.share_nodes.Goals as goal

pub loop-node-preserved : goal.loop-node-preserved
loop-node-preserved c =
    let same = c.in_ok-share.ensures.same ∙ c.node-item.is in
    c.in_ok-push.ensures.items
    ∙ (λ i. c.loop-node.invariant i ++ same i ∷ [])
    ∙ sym (take_more c.args.nodes.now c.loop-node.node-index c.node-item.result c.loop-node-test.true)

pub returns : goal.returns
returns c = c.loop-node.invariant ∙ take_all c.loop-node.node-index c.args.nodes.now c.loop-node-test.false
