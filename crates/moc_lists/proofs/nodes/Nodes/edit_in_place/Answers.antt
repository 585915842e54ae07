use Rattle.std.proofs.Common.{◌∙◌, [], List, ℕ, length, slice_set, ap, sym, subst, arith}
use Rattle.moc_blocks.specs.Blocks.{concat}
use Rattle.moc_blocks.specs.Private.Blocks.{IsStored}
use Rattle.moc_blocks.specs.Private.Edits.{IsEdited}
use Rattle.moc_blocks.proofs.Blocking.{range_count_bounded, width_bounded}
use Rattle.moc_blocks.proofs.Replacing.{as_many, node_part, node_pixels, count_set, width_set, block_edit_inside, stored_after_block_edit}
use Rattle.moc_blocks.proofs.Places.{starts_set}
use Rattle.moc_blocks.proofs.Splicing.{can_splice, on_true, splice_ranges}
use Rattle.moc_lists.proofs.nodes.Nodes.edit_in_place.Goals as goal

pub overflow_sub-other_ranges : goal.overflow_sub-other_ranges
overflow_sub-other_ranges c =
    node_part c.self.inside.nodes.items _ _ _ _ (block_edit_inside c.args.edit c.args.from c.args.to _ _ _ _ _ c.deref.ensures.value c.in-Some.ensures.block_edit) c.index.ensures c.count.ensures.value c.self.invariant.counted

pub overflow_sub-other_pixels : goal.overflow_sub-other_pixels
overflow_sub-other_pixels c =
    node_pixels c.self.inside.nodes.items _ _ _ _ (block_edit_inside c.args.edit c.args.from c.args.to _ _ _ _ _ c.deref.ensures.value c.in-Some.ensures.block_edit) c.index-2.ensures c.size.ensures.value c.self.invariant.measured

pub splice-requires : goal.splice-requires
splice-requires c = can_splice c.args.edit c.args.from c.args.to _ _ _ c.self.inside.nodes.items c.deref.result.now _ c.deref.ensures.value c.in-Some.ensures c.index_mut.ensures.value

pub overflow_add-self : goal.overflow_add-self
overflow_add-self c =
    let b = c.in-Some.ensures in
    let stored = subst (λ (l : List (List (List (ℕ × ℕ)))). IsStored [] l) (sym c.self.view_is) c.requires.stored in
    let made = splice_ranges c.args.edit c.args.from c.args.to _ _ _ c.self.inside.nodes.items c.deref.result.now _ c.deref.ensures.value b c.index_mut.ensures.value in
    let new = stored_after_block_edit c.args.edit c.args.from c.args.to _ _ c.self.inside.nodes.items c.deref.result.now _ _ _ _ stored c.deref.ensures.value b.block_edit c.index_mut.ensures.value made (on_true _ c.if-not-branch.false c.in_ok-splice.ensures.put) in
    let there = block_edit_inside c.args.edit c.args.from c.args.to _ _ _ _ _ c.deref.ensures.value b.block_edit in
    omega (arith, count_set c.self.inside.nodes.items _ _ _ _ _ _ _ there c.index.ensures c.index-3.ensures c.count.ensures.value c.count-2.ensures.value c.self.invariant.counted, range_count_bounded _ new.0.normal)

pub overflow_add-self-2 : goal.overflow_add-self-2
overflow_add-self-2 c =
    let b = c.in-Some.ensures in
    let stored = subst (λ (l : List (List (List (ℕ × ℕ)))). IsStored [] l) (sym c.self.view_is) c.requires.stored in
    let made = splice_ranges c.args.edit c.args.from c.args.to _ _ _ c.self.inside.nodes.items c.deref.result.now _ c.deref.ensures.value b c.index_mut.ensures.value in
    let new = stored_after_block_edit c.args.edit c.args.from c.args.to _ _ c.self.inside.nodes.items c.deref.result.now _ _ _ _ stored c.deref.ensures.value b.block_edit c.index_mut.ensures.value made (on_true _ c.if-not-branch.false c.in_ok-splice.ensures.put) in
    let there = block_edit_inside c.args.edit c.args.from c.args.to _ _ _ _ _ c.deref.ensures.value b.block_edit in
    omega (arith, width_set c.self.inside.nodes.items _ _ _ _ _ _ _ there c.index-2.ensures c.index-4.ensures c.size.ensures.value c.size-2.ensures.value c.self.invariant.measured, width_bounded _ new.0.normal)

pub invariant_of-self-2 : goal.invariant_of-self-2
invariant_of-self-2 c =
    let b = c.in-Some.ensures in
    let there = block_edit_inside c.args.edit c.args.from c.args.to _ _ _ _ _ c.deref.ensures.value b.block_edit in
    record {
      placed = c.self.invariant.placed ∙ sym (starts_set 0 c.self.inside.nodes.items c.in-Some.change.node c.index_mut.result.now c.splice.new.self c.index_mut.ensures.value (ap length (on_true _ c.if-not-branch.false c.in_ok-splice.ensures.put) ∙ as_many c.index_mut.result.now _ _));
      measured = width_set c.self.inside.nodes.items _ _ _ _ _ _ _ there c.index-2.ensures c.index-4.ensures c.size.ensures.value c.size-2.ensures.value c.self.invariant.measured;
      counted = count_set c.self.inside.nodes.items _ _ _ _ _ _ _ there c.index.ensures c.index-3.ensures c.count.ensures.value c.count-2.ensures.value c.self.invariant.counted;
    }

pub returns-clause-stored : goal.returns-clause-stored
returns-clause-stored c =
    let b = c.in-Some.ensures in
    let stored = subst (λ (l : List (List (List (ℕ × ℕ)))). IsStored [] l) (sym c.self.view_is) c.requires.stored in
    let made = splice_ranges c.args.edit c.args.from c.args.to _ _ _ c.self.inside.nodes.items c.deref.result.now _ c.deref.ensures.value b c.index_mut.ensures.value in
    let new = stored_after_block_edit c.args.edit c.args.from c.args.to _ _ c.self.inside.nodes.items c.deref.result.now _ _ _ _ stored c.deref.ensures.value b.block_edit c.index_mut.ensures.value made (on_true _ c.if-not-branch.false c.in_ok-splice.ensures.put) in
    new.0

pub returns-clause-edited : goal.returns-clause-edited
returns-clause-edited c =
    let b = c.in-Some.ensures in
    let stored = subst (λ (l : List (List (List (ℕ × ℕ)))). IsStored [] l) (sym c.self.view_is) c.requires.stored in
    let made = splice_ranges c.args.edit c.args.from c.args.to _ _ _ c.self.inside.nodes.items c.deref.result.now _ c.deref.ensures.value b c.index_mut.ensures.value in
    let new = stored_after_block_edit c.args.edit c.args.from c.args.to _ _ c.self.inside.nodes.items c.deref.result.now _ _ _ _ stored c.deref.ensures.value b.block_edit c.index_mut.ensures.value made (on_true _ c.if-not-branch.false c.in_ok-splice.ensures.put) in
    subst (λ (l : List (List (List (ℕ × ℕ)))). IsEdited c.args.edit c.args.from c.args.to (concat (concat l)) (concat (concat (slice_set c.self.inside.nodes.items c.in-Some.change.node c.splice.new.self)))) c.self.view_is new.1
