use Rattle.std.proofs.Common.{◌<◌, [], ◌∷◌, List, ℕ, length, refl, sym, subst, ap, arith}
use Rattle.moc_blocks.specs.Private.Blocks.{IsStored}
use Rattle.moc_blocks.proofs.Replacing.{node_part, node_pixels, node_edit_index, node_edit_bounds, one_count, one_width}
use Rattle.moc_blocks.proofs.Places.{starts_length, starts_fit, placed_one, stored_blocks}
use Rattle.moc_lists.proofs.nodes.Nodes.replace_node.Goals as goal

pub overflow_sub-other_ranges : goal.overflow_sub-other_ranges
overflow_sub-other_ranges c = node_part c.self.inside.nodes.items _ _ _ _ (omega (arith, ap length c.self.view_is, c.requires.place)) c.index.ensures c.count.ensures.value c.self.invariant.counted

pub overflow_sub-other_pixels : goal.overflow_sub-other_pixels
overflow_sub-other_pixels c = node_pixels c.self.inside.nodes.items _ _ _ _ (omega (arith, ap length c.self.view_is, c.requires.place)) c.index-2.ensures c.size.ensures.value c.self.invariant.measured

pub shift_after-requires-clause-there : goal.shift_after-requires-clause-there
shift_after-requires-clause-there c = omega (arith, ap length c.self.view_is, c.requires.place, ap length c.self.invariant.placed, starts_length 0 c.self.inside.nodes.items)

pub shift_after-requires-clause-fits : goal.shift_after-requires-clause-fits
shift_after-requires-clause-fits c =
    starts_fit c.self.inside.nodes.items c.self.inside.starts.items c.args.place _ _ c.index-3.result.now c.self.invariant.placed (omega (arith, ap length c.self.view_is, c.requires.place)) c.index-3.ensures (ap length c.blocks-blocks.ensures.value) (omega (arith, ap length c.blocks-2.ensures.value, c.blocks-2.ensures.fits)) (stored_blocks c.self.inside.nodes.items (subst (λ (l : List (List (List (ℕ × ℕ)))). IsStored [] l) (sym c.self.view_is) c.requires.before))

pub overflow_add-self : goal.overflow_add-self
overflow_add-self c = omega (arith, (node_edit_bounds c.self.inside.nodes.items c.args.self.now (c.args.node ∷ []) c.args.place _ _ _ _ _ _ _ _ _ c.self.view_is c.self.invariant (omega (arith, ap length c.self.view_is, c.requires.place)) c.index.ensures c.index-2.ensures c.count.ensures.value (one_count c.args.node _ c.count-2.ensures.value) c.size.ensures.value (one_width c.args.node _ refl) c.requires.stored).1)

pub overflow_add-self-2 : goal.overflow_add-self-2
overflow_add-self-2 c = omega (arith, (node_edit_bounds c.self.inside.nodes.items c.args.self.now (c.args.node ∷ []) c.args.place _ _ _ _ _ _ _ _ _ c.self.view_is c.self.invariant (omega (arith, ap length c.self.view_is, c.requires.place)) c.index.ensures c.index-2.ensures c.count.ensures.value (one_count c.args.node _ c.count-2.ensures.value) c.size.ensures.value (one_width c.args.node _ c.size-2.ensures.value) c.requires.stored).0)

pub invariant_of-self : goal.invariant_of-self
invariant_of-self c =
    let there : c.args.place < length c.self.inside.nodes.items = omega (arith, ap length c.self.view_is, c.requires.place) in
    node_edit_index c.self.inside.nodes.items (c.args.node ∷ []) _ _ _ c.args.place _ _ _ _ _ _ c.index.result.now c.index-2.result.now c.self.invariant there c.index.ensures c.index-2.ensures c.count.ensures.value (one_count c.args.node _ c.count-2.ensures.value) c.size.ensures.value (one_width c.args.node _ c.size-2.ensures.value) c.replace_with_one.ensures
    (placed_one c.self.inside.nodes.items c.self.inside.starts.items _ c.args.place _ _ c.index-3.result.now c.args.node c.self.invariant.placed there c.index-3.ensures (ap length c.blocks-blocks.ensures.value) (ap length c.blocks-2.ensures.value) c.shift_after.ensures.shift_starts)
