use Rattle.std.proofs.Common.{◌≡◌, ◌++◌, ◌-◌, [], length, ap, sym, ◌∙◌, arith, List, ℕ, take, drop}
use Rattle.moc_blocks.specs.Blocks.{concat}
use Rattle.moc_blocks.proofs.Blocking.{node_split, none_there}
use Rattle.moc_blocks.proofs.cursor.enter_node.Goals as goal

pub returns-clause-same : goal.returns-clause-same
returns-clause-same c =
    let nodes = c.args.cursor.nodes.now in
    let none : c.args.cursor.blocks.now ≡ [] = none_there _ (omega arith) in
    ap (λ (l : List (List (ℕ × ℕ))). concat l ++ concat (concat (take (length nodes - 1) (drop 1 nodes)))) c.blocks-2.ensures.value
    ∙ sym (node_split nodes c.node-item.result c.in-len1-up.len_at_least c.node-item.is)
    ∙ ap (λ (l : List (List (ℕ × ℕ))). concat l ++ concat (concat nodes)) (sym none)
