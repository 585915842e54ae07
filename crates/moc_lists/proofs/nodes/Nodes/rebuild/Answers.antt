use Rattle.std.proofs.Common.{[], List, ℕ, length, slice_set, refl, ap, sym, subst, ◌∙◌, arith}
use Rattle.moc_blocks.specs.Blocks.{concat}
use Rattle.moc_blocks.specs.Private.Blocks.{AreNodes, IsStored}
use Rattle.moc_blocks.specs.Private.Edits.{IsEdit, IsEdited}
use Rattle.moc_blocks.specs.declared.edits.rebuild.Edit.{Edit}
use Rattle.moc_blocks.proofs.Editing.{some_of, node_edit_stored, node_edit_edits}
use Rattle.moc_blocks.proofs.Blocking.{range_count_bounded, width_bounded}
use Rattle.moc_blocks.proofs.Replacing.{as_many, set_same, node_part, node_pixels, count_set, width_set, block_edit_inside, block_edit_normal, block_edit_sized}
use Rattle.moc_blocks.proofs.Replacing.{stored_after_block_edit}
use Rattle.moc_blocks.proofs.Places.{starts_set}
use Rattle.moc_lists.proofs.nodes.Nodes.rebuild.Goals as goal

pub overflow_sub-other_ranges : goal.overflow_sub-other_ranges
overflow_sub-other_ranges c =
    let edit = subst (λ (e : Edit). IsEdit c.args.edit c.args.from c.args.to c.deref.result.now e) c.in-Block.is (some_of _ _ _ c.in-Some.is c.in_ok-change.ensures) in
    node_part c.self.inside.nodes.items _ _ _ _ (block_edit_inside c.args.edit c.args.from c.args.to _ _ _ _ _ c.deref.ensures.value edit) c.index.ensures c.count.ensures.value c.self.invariant.counted

pub overflow_sub-other_pixels : goal.overflow_sub-other_pixels
overflow_sub-other_pixels c =
    let edit = subst (λ (e : Edit). IsEdit c.args.edit c.args.from c.args.to c.deref.result.now e) c.in-Block.is (some_of _ _ _ c.in-Some.is c.in_ok-change.ensures) in
    node_pixels c.self.inside.nodes.items _ _ _ _ (block_edit_inside c.args.edit c.args.from c.args.to _ _ _ _ _ c.deref.ensures.value edit) c.index-2.ensures c.size.ensures.value c.self.invariant.measured

pub replace_block-requires-clause-normal : goal.replace_block-requires-clause-normal
replace_block-requires-clause-normal c =
    let edit = subst (λ (e : Edit). IsEdit c.args.edit c.args.from c.args.to c.deref.result.now e) c.in-Block.is (some_of _ _ _ c.in-Some.is c.in_ok-change.ensures) in
    block_edit_normal c.args.edit c.args.from c.args.to _ _ c.self.inside.nodes.items c.deref.result.now _ _ _ c.deref.ensures.value edit c.index_mut.ensures.value c.in_ok-new.ensures

pub replace_block-requires-clause-sized : goal.replace_block-requires-clause-sized
replace_block-requires-clause-sized c =
    let edit = subst (λ (e : Edit). IsEdit c.args.edit c.args.from c.args.to c.deref.result.now e) c.in-Block.is (some_of _ _ _ c.in-Some.is c.in_ok-change.ensures) in
    block_edit_sized c.args.edit c.args.from c.args.to _ _ c.self.inside.nodes.items c.deref.result.now _ _ _ c.deref.ensures.value edit c.index_mut.ensures.value c.in_ok-new.ensures

pub invariant_of-self : goal.invariant_of-self
invariant_of-self c =
    let still = set_same c.self.inside.nodes.items _ _ _ c.index_mut.ensures.value (c.if-not-replace_block.ensures.unchanged refl) in
    subst (λ (l : List (List (List (ℕ × ℕ)))). AreNodes c.self.inside.starts.items c.self.inside.size c.self.inside.count l) (sym still) c.self.invariant

pub returns-then-not-replace_block-clause-stored : goal.returns-then-not-replace_block-clause-stored
returns-then-not-replace_block-clause-stored c =
    let still = set_same c.self.inside.nodes.items _ _ _ c.index_mut.ensures.value (c.if-not-replace_block.ensures.unchanged refl) in
    subst (λ (l : List (List (List (ℕ × ℕ)))). IsStored [] l) (sym (still ∙ c.self.view_is)) c.requires.stored

pub overflow_add-self : goal.overflow_add-self
overflow_add-self c =
    let edit = subst (λ (e : Edit). IsEdit c.args.edit c.args.from c.args.to c.deref.result.now e) c.in-Block.is (some_of _ _ _ c.in-Some.is c.in_ok-change.ensures) in
    let stored = subst (λ (l : List (List (List (ℕ × ℕ)))). IsStored [] l) (sym c.self.view_is) c.requires.stored in
    let new = stored_after_block_edit c.args.edit c.args.from c.args.to _ _ c.self.inside.nodes.items c.deref.result.now _ _ _ _ stored c.deref.ensures.value edit c.index_mut.ensures.value c.in_ok-new.ensures (c.if-not-replace_block.ensures.put refl) in
    let there = block_edit_inside c.args.edit c.args.from c.args.to _ _ _ _ _ c.deref.ensures.value edit in
    omega (arith, count_set c.self.inside.nodes.items _ _ _ _ _ _ _ there c.index.ensures c.index-3.ensures c.count.ensures.value c.count-2.ensures.value c.self.invariant.counted, range_count_bounded _ new.0.normal)

pub overflow_add-self-2 : goal.overflow_add-self-2
overflow_add-self-2 c =
    let edit = subst (λ (e : Edit). IsEdit c.args.edit c.args.from c.args.to c.deref.result.now e) c.in-Block.is (some_of _ _ _ c.in-Some.is c.in_ok-change.ensures) in
    let stored = subst (λ (l : List (List (List (ℕ × ℕ)))). IsStored [] l) (sym c.self.view_is) c.requires.stored in
    let new = stored_after_block_edit c.args.edit c.args.from c.args.to _ _ c.self.inside.nodes.items c.deref.result.now _ _ _ _ stored c.deref.ensures.value edit c.index_mut.ensures.value c.in_ok-new.ensures (c.if-not-replace_block.ensures.put refl) in
    let there = block_edit_inside c.args.edit c.args.from c.args.to _ _ _ _ _ c.deref.ensures.value edit in
    omega (arith, width_set c.self.inside.nodes.items _ _ _ _ _ _ _ there c.index-2.ensures c.index-4.ensures c.size.ensures.value c.size-2.ensures.value c.self.invariant.measured, width_bounded _ new.0.normal)

pub invariant_of-self-2 : goal.invariant_of-self-2
invariant_of-self-2 c =
    let edit = subst (λ (e : Edit). IsEdit c.args.edit c.args.from c.args.to c.deref.result.now e) c.in-Block.is (some_of _ _ _ c.in-Some.is c.in_ok-change.ensures) in
    let stored = subst (λ (l : List (List (List (ℕ × ℕ)))). IsStored [] l) (sym c.self.view_is) c.requires.stored in
    let new = stored_after_block_edit c.args.edit c.args.from c.args.to _ _ c.self.inside.nodes.items c.deref.result.now _ _ _ _ stored c.deref.ensures.value edit c.index_mut.ensures.value c.in_ok-new.ensures (c.if-not-replace_block.ensures.put refl) in
    let there = block_edit_inside c.args.edit c.args.from c.args.to _ _ _ _ _ c.deref.ensures.value edit in
    record {
      placed = c.self.invariant.placed ∙ sym (starts_set 0 c.self.inside.nodes.items c.in-Block.edit.node c.index_mut.result.now c.replace_block.new.self c.index_mut.ensures.value (ap length (c.if-not-replace_block.ensures.put refl) ∙ as_many c.index_mut.result.now _ _));
      measured = width_set c.self.inside.nodes.items _ _ _ _ _ _ _ there c.index-2.ensures c.index-4.ensures c.size.ensures.value c.size-2.ensures.value c.self.invariant.measured;
      counted = count_set c.self.inside.nodes.items _ _ _ _ _ _ _ there c.index.ensures c.index-3.ensures c.count.ensures.value c.count-2.ensures.value c.self.invariant.counted;
    }

pub returns-clause-stored : goal.returns-clause-stored
returns-clause-stored c =
    let edit = subst (λ (e : Edit). IsEdit c.args.edit c.args.from c.args.to c.deref.result.now e) c.in-Block.is (some_of _ _ _ c.in-Some.is c.in_ok-change.ensures) in
    let stored = subst (λ (l : List (List (List (ℕ × ℕ)))). IsStored [] l) (sym c.self.view_is) c.requires.stored in
    (stored_after_block_edit c.args.edit c.args.from c.args.to _ _ c.self.inside.nodes.items c.deref.result.now _ _ _ _ stored c.deref.ensures.value edit c.index_mut.ensures.value c.in_ok-new.ensures (c.if-not-replace_block.ensures.put refl)).0

pub returns-clause-edited : goal.returns-clause-edited
returns-clause-edited c =
    let edit = subst (λ (e : Edit). IsEdit c.args.edit c.args.from c.args.to c.deref.result.now e) c.in-Block.is (some_of _ _ _ c.in-Some.is c.in_ok-change.ensures) in
    let stored = subst (λ (l : List (List (List (ℕ × ℕ)))). IsStored [] l) (sym c.self.view_is) c.requires.stored in
    let new = stored_after_block_edit c.args.edit c.args.from c.args.to _ _ c.self.inside.nodes.items c.deref.result.now _ _ _ _ stored c.deref.ensures.value edit c.index_mut.ensures.value c.in_ok-new.ensures (c.if-not-replace_block.ensures.put refl) in
    subst (λ (l : List (List (List (ℕ × ℕ)))). IsEdited c.args.edit c.args.from c.args.to (concat (concat l)) (concat (concat (slice_set c.self.inside.nodes.items c.in-Block.edit.node c.replace_block.new.self)))) c.self.view_is new.1

pub put-requires-clause-stored : goal.put-requires-clause-stored
put-requires-clause-stored c =
    let edit = subst (λ (e : Edit). IsEdit c.args.edit c.args.from c.args.to c.deref.result.now e) c.in-Node.is (some_of _ _ _ c.in-Some.is c.in_ok-change.ensures) in
    node_edit_stored c.args.edit c.args.from c.args.to _ c.args.self.now c.deref.result.now _ _ _ (c.deref.ensures.value ∙ c.self.view_is) edit refl

pub returns-in-Node-clause-stored : goal.returns-in-Node-clause-stored
returns-in-Node-clause-stored c =
    let edit = subst (λ (e : Edit). IsEdit c.args.edit c.args.from c.args.to c.deref.result.now e) c.in-Node.is (some_of _ _ _ c.in-Some.is c.in_ok-change.ensures) in
    node_edit_stored c.args.edit c.args.from c.args.to _ c.args.self.now c.deref.result.now c.put.new.self _ _ (c.deref.ensures.value ∙ c.self.view_is) edit c.in_ok-put-in-Node.ensures.new

pub returns-in-Node-clause-edited : goal.returns-in-Node-clause-edited
returns-in-Node-clause-edited c =
    let edit = subst (λ (e : Edit). IsEdit c.args.edit c.args.from c.args.to c.deref.result.now e) c.in-Node.is (some_of _ _ _ c.in-Some.is c.in_ok-change.ensures) in
    node_edit_edits c.args.edit c.args.from c.args.to _ c.args.self.now c.deref.result.now c.put.new.self _ _ (c.deref.ensures.value ∙ c.self.view_is) edit c.in_ok-put-in-Node.ensures.new
