use Rattle.std.proofs.Common.{◌++◌, ◌∷◌, [], List, ℕ, ap, sym, ◌∙◌, append_assoc, take}
use Rattle.std.proofs.lemmas.List.{take_more, take_all}
use Rattle.moc_blocks.proofs.Blocking.{append_empty}
use Rattle.moc_blocks.proofs.edits.rebuild.push_shared.Goals as goal

pub loop-block-init : goal.loop-block-init
loop-block-init c = sym (append_empty c.args.blocks.now.items)

pub loop-block-preserved : goal.loop-block-preserved
loop-block-preserved c =
    let same = c.in_ok-share.ensures.same ∙ c.block-item.is in
    let begun = take c.loop-block.block-index c.args.more.now in
    c.in_ok-push.ensures.items
    ∙ (λ i. c.loop-block.invariant i ++ same i ∷ [])
    ∙ append_assoc c.args.blocks.now.items begun _
    ∙ ap (λ (l : List (List (ℕ × ℕ))). c.args.blocks.now.items ++ l) (sym (take_more c.args.more.now c.loop-block.block-index c.block-item.result c.loop-block-test.true))

pub returns : goal.returns
returns c = c.loop-block.invariant ∙ ap (λ (l : List (List (ℕ × ℕ))). c.args.blocks.now.items ++ l) (take_all c.loop-block.block-index c.args.more.now c.loop-block-test.false)
