use Rattle.std.proofs.Common.{◌<◌, ◌+◌, [], ◌∷◌, List, ℕ, length, get_or, refl, sym, subst, ap, ◌∙◌, arith}
use Rattle.std.specs.Prelude.{vec_len, vec_capacity}
use Rattle.moc_blocks.specs.Private.Blocks.{AreNodes, IsStored}
use Rattle.moc_blocks.proofs.Replacing.{node_part, node_pixels, node_edit_index, node_edit_bounds, two_count, two_width}
use Rattle.moc_blocks.proofs.Places.{starts_length, starts_fit, start_bound, placed_two, stored_blocks}
use Rattle.moc_lists.proofs.nodes.Nodes.replace_with_two.Goals as goal

pub overflow_sub-other_ranges : goal.overflow_sub-other_ranges
overflow_sub-other_ranges c = node_part c.self.inside.nodes.items _ _ _ _ (omega (arith, ap length c.self.view_is, c.requires.place)) c.index.ensures c.count.ensures.value c.self.invariant.counted

pub overflow_sub-other_pixels : goal.overflow_sub-other_pixels
overflow_sub-other_pixels c = node_pixels c.self.inside.nodes.items _ _ _ _ (omega (arith, ap length c.self.view_is, c.requires.place)) c.index-2.ensures c.size.ensures.value c.self.invariant.measured

pub index-requires-4 : goal.index-requires-4
index-requires-4 c = omega (arith, ap length c.self.view_is, c.requires.place, ap length c.self.invariant.placed, starts_length 0 c.self.inside.nodes.items, c.self.inside.starts.ok)

pub overflow_add-start : goal.overflow_add-start
overflow_add-start c =
    omega (arith, c.blocks-2.ensures.fits, ap length c.blocks-2.ensures.value, start_bound c.self.inside.nodes.items c.self.inside.starts.items c.args.place c.index-4.result.now c.self.invariant.placed (omega (arith, ap length c.self.view_is, c.requires.place)) c.index-4.ensures (stored_blocks c.self.inside.nodes.items (subst (λ (l : List (List (List (ℕ × ℕ)))). IsStored [] l) (sym c.self.view_is) c.requires.before)))

pub overflow_add-ranges : goal.overflow_add-ranges
overflow_add-ranges c = omega (arith, (node_edit_bounds c.self.inside.nodes.items c.args.self.now (c.args.first ∷ (c.args.second ∷ [])) c.args.place _ _ _ _ _ _ _ _ _ c.self.view_is c.self.invariant (omega (arith, ap length c.self.view_is, c.requires.place)) c.index.ensures c.index-2.ensures c.count.ensures.value (two_count c.args.first c.args.second _ _ c.count-2.ensures.value c.count-3.ensures.value) c.size.ensures.value (two_width c.args.first c.args.second _ _ refl refl) c.requires.stored).1)

pub overflow_add-pixels : goal.overflow_add-pixels
overflow_add-pixels c = omega (arith, (node_edit_bounds c.self.inside.nodes.items c.args.self.now (c.args.first ∷ (c.args.second ∷ [])) c.args.place _ _ _ _ _ _ _ _ _ c.self.view_is c.self.invariant (omega (arith, ap length c.self.view_is, c.requires.place)) c.index.ensures c.index-2.ensures c.count.ensures.value (two_count c.args.first c.args.second _ _ c.count-2.ensures.value c.count-3.ensures.value) c.size.ensures.value (two_width c.args.first c.args.second _ _ c.size-2.ensures.value c.size-3.ensures.value) c.requires.stored).0)

pub invariant_of-self : goal.invariant_of-self
invariant_of-self c = subst (λ (l : List ℕ). AreNodes l c.self.inside.size c.self.inside.count c.self.inside.nodes.items) (sym c.reserve.ensures.items) c.self.invariant

pub shift_after-requires-clause-there : goal.shift_after-requires-clause-there
shift_after-requires-clause-there c = omega (arith, ap length c.self.view_is, c.requires.place, ap length c.self.invariant.placed, starts_length 0 c.self.inside.nodes.items, ap length c.reserve.ensures.items)

pub shift_after-requires-clause-fits : goal.shift_after-requires-clause-fits
shift_after-requires-clause-fits c =
    starts_fit c.self.inside.nodes.items _ c.args.place _ _ c.index-3.result.now (c.reserve.ensures.items ∙ c.self.invariant.placed) (omega (arith, ap length c.self.view_is, c.requires.place)) c.index-3.ensures (ap length c.blocks-blocks.ensures.value) (omega (arith, ap length c.blocks-3.ensures.value, c.blocks-3.ensures.fits, ap length c.blocks-4.ensures.value, c.blocks-4.ensures.fits)) (stored_blocks c.self.inside.nodes.items (subst (λ (l : List (List (List (ℕ × ℕ)))). IsStored [] l) (sym c.self.view_is) c.requires.before))

pub insert-requires : goal.insert-requires
insert-requires c = omega (arith, ap length c.self.view_is, c.requires.place, ap length c.self.invariant.placed, starts_length 0 c.self.inside.nodes.items, c.self.inside.starts.ok, c.reserve.ensures.len, c.shift_after.ensures.len)

pub overflow_add-self : goal.overflow_add-self
overflow_add-self c = omega (arith, (node_edit_bounds c.self.inside.nodes.items c.args.self.now (c.args.first ∷ (c.args.second ∷ [])) c.args.place _ _ _ _ _ _ _ _ _ c.self.view_is c.self.invariant (omega (arith, ap length c.self.view_is, c.requires.place)) c.index.ensures c.index-2.ensures c.count.ensures.value (two_count c.args.first c.args.second _ _ c.count-2.ensures.value c.count-3.ensures.value) c.size.ensures.value (two_width c.args.first c.args.second _ _ c.size-2.ensures.value c.size-3.ensures.value) c.requires.stored).1)

pub overflow_add-self-2 : goal.overflow_add-self-2
overflow_add-self-2 c = omega (arith, (node_edit_bounds c.self.inside.nodes.items c.args.self.now (c.args.first ∷ (c.args.second ∷ [])) c.args.place _ _ _ _ _ _ _ _ _ c.self.view_is c.self.invariant (omega (arith, ap length c.self.view_is, c.requires.place)) c.index.ensures c.index-2.ensures c.count.ensures.value (two_count c.args.first c.args.second _ _ c.count-2.ensures.value c.count-3.ensures.value) c.size.ensures.value (two_width c.args.first c.args.second _ _ c.size-2.ensures.value c.size-3.ensures.value) c.requires.stored).0)

pub invariant_of-self-2 : goal.invariant_of-self-2
invariant_of-self-2 c =
    let there : c.args.place < length c.self.inside.nodes.items = omega (arith, ap length c.self.view_is, c.requires.place) in
    let capacity : vec_len c.shift_after.new.starts < vec_capacity c.shift_after.new.starts = omega (arith, c.shift_after.ensures.len, c.shift_after.ensures.capacity, c.in_ok-reserve.ensures.ok) in
    node_edit_index c.self.inside.nodes.items (c.args.first ∷ (c.args.second ∷ [])) _ _ _ c.args.place _ _ _ _ _ _ c.index.result.now c.index-2.result.now c.self.invariant there c.index.ensures c.index-2.ensures c.count.ensures.value (two_count c.args.first c.args.second _ _ c.count-2.ensures.value c.count-3.ensures.value) c.size.ensures.value (two_width c.args.first c.args.second _ _ c.size-2.ensures.value c.size-3.ensures.value) c.in_ok-replace_with_two.ensures.new
    (placed_two c.self.inside.nodes.items c.reserve.new.self.items c.shift_after.new.starts.items _ c.args.place c.index-4.result.now _ _ _ c.index-3.result.now c.args.first c.args.second _
    (c.reserve.ensures.items ∙ c.self.invariant.placed) there c.index-3.ensures (ap length c.blocks-blocks.ensures.value) (c.index-4.ensures ∙ ap (λ (l : List ℕ). get_or l c.args.place c.index-4.result.now) (sym c.reserve.ensures.items))
    (ap length c.blocks-2.ensures.value) (λ i. length (c.blocks-3.ensures.value i) + length (c.blocks-4.ensures.value i)) c.shift_after.ensures.shift_starts (c.insert.ensures.succeeds capacity) c.insert.ensures.items)
