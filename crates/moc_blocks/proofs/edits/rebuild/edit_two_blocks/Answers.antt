use Rattle.std.proofs.Common.{List, ℕ, refl, subst}
use Rattle.std.proofs.lemmas.Result.{IfOk-weaker}
use Rattle.moc_blocks.specs.RangeList.{IsNormal}
use Rattle.moc_blocks.specs.Blocks.{concat, AreBlocks}
use Rattle.moc_blocks.proofs.Editing.{some_of, concat_around_node, node_blocks_normal, node_blocks_sized, node_replacement_edits}
use Rattle.moc_blocks.proofs.edits.rebuild.edit_two_blocks.Goals as goal

pub edit_pair-requires-clause-sized : goal.edit_pair-requires-clause-sized
edit_pair-requires-clause-sized c = subst AreBlocks (concat_around_node _ c.args.place.now.before.now c.args.place.now.after.now c.args.place.now.run.now refl) c.requires.stored.sized

pub edit_pair-requires-clause-normal : goal.edit_pair-requires-clause-normal
edit_pair-requires-clause-normal c = subst (λ (l : List (List (ℕ × ℕ))). IsNormal (concat l)) (concat_around_node _ c.args.place.now.before.now c.args.place.now.after.now c.args.place.now.run.now refl) c.requires.stored.normal

pub replace_node-requires-clause-normal : goal.replace_node-requires-clause-normal
replace_node-requires-clause-normal c = node_blocks_normal c.args.edit c.args.from c.args.to (concat c.args.place.now.before.now) (concat c.args.place.now.after.now) c.args.place.now.run.now c.in-Some.blocks.items (some_of _ _ _ c.in-Some.is c.in_ok-blocks.ensures)

pub replace_node-requires-clause-sized : goal.replace_node-requires-clause-sized
replace_node-requires-clause-sized c = node_blocks_sized c.args.edit c.args.from c.args.to (concat c.args.place.now.before.now) (concat c.args.place.now.after.now) c.args.place.now.run.now c.in-Some.blocks.items (some_of _ _ _ c.in-Some.is c.in_ok-blocks.ensures)

pub returns : goal.returns
returns c = IfOk-weaker c.replace_node.result _ _
    (λ o replaced. node_replacement_edits c.args.edit c.args.from c.args.to _ c.args.place.now.before.now c.args.place.now.after.now c.args.place.now.run.now c.in-Some.blocks.items o
    c.requires.stored refl (some_of _ _ _ c.in-Some.is c.in_ok-blocks.ensures) replaced)
    c.replace_node.ensures
