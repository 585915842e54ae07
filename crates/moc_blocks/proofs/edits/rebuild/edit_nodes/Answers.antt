use Rattle.std.proofs.Common.{List, ℕ, subst, sym}
use Rattle.moc_blocks.specs.RangeList.{IsNormal}
use Rattle.moc_blocks.specs.Blocks.{concat, AreBlocks}
use Rattle.moc_blocks.specs.Private.Built.{EndsBelow}
use Rattle.moc_blocks.specs.Private.Edits.{IsNodeBlocks}
use Rattle.moc_blocks.proofs.Passing.{all_ranges-nodes}
use Rattle.std.proofs.lemmas.Result.{IfOk-weaker}
use Rattle.moc_blocks.proofs.Editing.{some_of, concat_around_node, node_blocks_normal, node_blocks_sized, node_replacement_edits}
use Rattle.moc_blocks.proofs.edits.rebuild.edit_nodes.Goals as goal

pub find_run-requires : goal.find_run-requires
find_run-requires c = subst IsNormal (sym (all_ranges-nodes c.args.nodes.now)) c.requires.stored.normal

pub edit_block-requires-clause-sized : goal.edit_block-requires-clause-sized
edit_block-requires-clause-sized c = subst AreBlocks (concat_around_node _ _ _ _ c.in-Some.ensures.parts) c.requires.stored.sized

pub edit_block-requires-clause-normal : goal.edit_block-requires-clause-normal
edit_block-requires-clause-normal c = subst (λ (l : List (List (ℕ × ℕ))). IsNormal (concat l)) (concat_around_node _ _ _ _ c.in-Some.ensures.parts) c.requires.stored.normal

pub edit_block-requires-clause-below : goal.edit_block-requires-clause-below
edit_block-requires-clause-below c = subst (λ (l : List (ℕ × ℕ)). EndsBelow c.args.from l) (all_ranges-nodes c.in-Some.place.before.now) c.in-Some.ensures.below

pub edit_two_blocks-requires-clause-below : goal.edit_two_blocks-requires-clause-below
edit_two_blocks-requires-clause-below c = subst (λ (l : List (ℕ × ℕ)). EndsBelow c.args.from l) (all_ranges-nodes c.in-Some.place.before.now) c.in-Some.ensures.below

pub replace_node-requires-clause-normal : goal.replace_node-requires-clause-normal
replace_node-requires-clause-normal c =
    let node_blocks = subst (λ (l : List (List (ℕ × ℕ))). IsNodeBlocks c.args.edit c.args.from c.args.to (concat c.in-Some.place.before.now) (concat c.in-Some.place.after.now) c.in-Some.place.run.now l) (sym c.in_ok-blocks.ensures) (some_of _ _ _ c.in-Some-2.is c.in_ok-own.ensures).node_blocks in
    node_blocks_normal c.args.edit c.args.from c.args.to (concat c.in-Some.place.before.now) (concat c.in-Some.place.after.now) c.in-Some.place.run.now c.in_ok-blocks.blocks.items node_blocks

pub replace_node-requires-clause-sized : goal.replace_node-requires-clause-sized
replace_node-requires-clause-sized c =
    let node_blocks = subst (λ (l : List (List (ℕ × ℕ))). IsNodeBlocks c.args.edit c.args.from c.args.to (concat c.in-Some.place.before.now) (concat c.in-Some.place.after.now) c.in-Some.place.run.now l) (sym c.in_ok-blocks.ensures) (some_of _ _ _ c.in-Some-2.is c.in_ok-own.ensures).node_blocks in
    node_blocks_sized c.args.edit c.args.from c.args.to (concat c.in-Some.place.before.now) (concat c.in-Some.place.after.now) c.in-Some.place.run.now c.in_ok-blocks.blocks.items node_blocks

pub returns : goal.returns
returns c =
    let node_blocks = subst (λ (l : List (List (ℕ × ℕ))). IsNodeBlocks c.args.edit c.args.from c.args.to (concat c.in-Some.place.before.now) (concat c.in-Some.place.after.now) c.in-Some.place.run.now l) (sym c.in_ok-blocks.ensures) (some_of _ _ _ c.in-Some-2.is c.in_ok-own.ensures).node_blocks in
    IfOk-weaker c.replace_node.result _ _
    (λ o replaced. node_replacement_edits c.args.edit c.args.from c.args.to c.args.nodes.now c.in-Some.place.before.now c.in-Some.place.after.now c.in-Some.place.run.now c.in_ok-blocks.blocks.items o
    c.requires.stored c.in-Some.ensures.parts node_blocks replaced)
    c.replace_node.ensures
