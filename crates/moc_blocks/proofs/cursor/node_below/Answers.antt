use Rattle.std.proofs.Common.{◌≡◌, [], ap, ◌∙◌, arith, List, ℕ}
use Rattle.moc_blocks.specs.Private.Blocks.{rest_of}
use Rattle.moc_blocks.proofs.Blocking.{node_split, none_there}
use Rattle.moc_blocks.proofs.cursor.node_below.Goals as goal

pub returns-then-to-limit-clause-parts : goal.returns-then-to-limit-clause-parts
returns-then-to-limit-clause-parts c =
    let no_ranges : c.args.ranges.now ≡ [] = none_there _ (omega arith) in
    let no_blocks : c.args.cursor.blocks.now ≡ [] = none_there _ (omega arith) in
    ap (λ (l : List (ℕ × ℕ)). rest_of l c.args.cursor.blocks.now c.args.cursor.nodes.now) no_ranges
    ∙ ap (λ (l : List (List (ℕ × ℕ))). rest_of [] l c.args.cursor.nodes.now) no_blocks
    ∙ node_split c.args.cursor.nodes.now c.node-item.result c.in-len1-up.len_at_least c.node-item.is
