use Rattle.std.proofs.Common.{◌<◌, ◌≤◌, ◌++◌, [], ◌∷◌, ℕ, List, length, take, get_or, ap, ◌∙◌, arith}
use Rattle.std.proofs.lemmas.List.{take_all}
use Rattle.moc_blocks.specs.Blocks.{concat}
use Rattle.moc_blocks.specs.Private.Blocks.{starts_from}
use Rattle.moc_blocks.proofs.Blocking.{node_step, node_widths_complete, length_node_step, node_lengths_complete}
use Rattle.moc_blocks.proofs.Stepping.{concat_lengths_next, block_count_bounded}
use Rattle.moc_blocks.proofs.Places.{starts_more}
use Rattle.moc_lists.proofs.nodes.Nodes.new.Goals as goal

pub overflow_add-blocks : goal.overflow_add-blocks
overflow_add-blocks c =
    let taken = concat_lengths_next c.deref-node-items.result.now c.loop-node.node-index c.node-item.result c.loop-node-test.true c.node-item.is in
    let all = ap (λ (l : List (List (List (ℕ × ℕ)))). length (concat l)) c.deref-node-items.ensures.value in
    let begun = ap (λ (l : List (List (List (ℕ × ℕ)))). length (concat (take c.loop-node.node-index l))) c.deref-node-items.ensures.value in
    omega (arith, taken.1, all, begun, block_count_bounded (concat c.args.nodes.items) c.requires, c.loop-node.invariant.many, ap length c.blocks-in-loop-node.ensures.value)

pub overflow_add-size : goal.overflow_add-size
overflow_add-size c =
    let is = c.node-item.is ∙ ap (λ (l : List (List (List (ℕ × ℕ)))). get_or l c.loop-node.node-index c.node-item.result) c.deref-node-items.ensures.value in
    let lt : c.loop-node.node-index < length c.args.nodes.items = omega (arith, c.loop-node-test.true, ap length c.deref-node-items.ensures.value) in
    omega (arith, (node_step c.args.nodes.items c.loop-node.node-index c.node-item.result c.requires.normal lt is).1, c.size-size.ensures.value, c.loop-node.invariant.measured)

pub overflow_add-count : goal.overflow_add-count
overflow_add-count c =
    let is = c.node-item.is ∙ ap (λ (l : List (List (List (ℕ × ℕ)))). get_or l c.loop-node.node-index c.node-item.result) c.deref-node-items.ensures.value in
    let lt : c.loop-node.node-index < length c.args.nodes.items = omega (arith, c.loop-node-test.true, ap length c.deref-node-items.ensures.value) in
    omega (arith, (length_node_step c.args.nodes.items c.loop-node.node-index c.node-item.result c.requires.normal lt is).1, c.count-count.ensures.value, c.loop-node.invariant.counted)

pub loop-node-preserved : goal.loop-node-preserved
loop-node-preserved c =
    let before = c.loop-node.invariant in
    let nodes = c.args.nodes.items in
    let i = c.loop-node.node-index in
    let node = c.node-item.result in
    let is = c.node-item.is ∙ ap (λ (l : List (List (List (ℕ × ℕ)))). get_or l c.loop-node.node-index c.node-item.result) c.deref-node-items.ensures.value in
    let lt : c.loop-node.node-index < length c.args.nodes.items = omega (arith, c.loop-node-test.true, ap length c.deref-node-items.ensures.value) in
    record {
      placed = c.in_ok-push.ensures.items ∙ ap (λ (l : List ℕ). l ++ c.loop-node.blocks ∷ []) before.placed ∙ starts_more nodes i c.loop-node.blocks node lt is before.many;
      many = omega (arith, (concat_lengths_next nodes i node lt is).0, before.many, ap length c.blocks-in-loop-node.ensures.value);
      measured = omega (arith, (node_step nodes i node c.requires.normal lt is).0, c.size-size.ensures.value, before.measured);
      counted = omega (arith, (length_node_step nodes i node c.requires.normal lt is).0, c.count-count.ensures.value, before.counted);
    }

pub invariant_of-result : goal.invariant_of-result
invariant_of-result c =
    let done : length c.args.nodes.items ≤ c.loop-node.node-index = omega (arith, c.loop-node-test.false, ap length c.deref-node-items.ensures.value) in
    record {
      placed = c.loop-node.invariant.placed ∙ ap (λ (l : List (List (List (ℕ × ℕ)))). starts_from 0 l) (take_all c.loop-node.node-index c.args.nodes.items done);
      measured = c.loop-node.invariant.measured ∙ node_widths_complete c.args.nodes.items c.loop-node.node-index done;
      counted = c.loop-node.invariant.counted ∙ node_lengths_complete c.args.nodes.items c.loop-node.node-index done;
    }
