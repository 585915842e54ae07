use Rattle.std.proofs.Common.{◌+◌, length, ap, ◌∙◌, arith}
use Rattle.moc_blocks.specs.Blocks.{concat}
use Rattle.moc_blocks.proofs.Stepping.{block_count_bounded}
use Rattle.moc_blocks.proofs.Places.{starts_length, count_all}
use Rattle.moc_lists.proofs.nodes.Nodes.count_blocks.Goals as goal

pub index-requires : goal.index-requires
index-requires c =
    let many = ap length c.self.invariant.placed ∙ starts_length 0 c.self.inside.nodes.items in
    omega (arith, many, c.self.inside.starts.ok, c.self.inside.nodes.ok, c.len-count.ensures, c.if-count-eq0.false)

pub returns : goal.returns
returns c =
    let all = count_all c.self.inside.nodes.items c.self.inside.starts.items c.len-count.result c.index.result.now c.index-2.result.now c.self.invariant.placed (omega (arith, c.len-count.ensures, c.self.inside.nodes.ok)) (omega (arith, c.if-count-eq0.false)) c.index.ensures c.index-2.ensures in
    ap (λ n. c.index.result.now + n) (ap length c.blocks-2.ensures.value) ∙ all ∙ ap (λ l. length (concat l)) c.self.view_is

pub overflow_add-result : goal.overflow_add-result
overflow_add-result c =
    let all = count_all c.self.inside.nodes.items c.self.inside.starts.items c.len-count.result c.index.result.now c.index-2.result.now c.self.invariant.placed (omega (arith, c.len-count.ensures, c.self.inside.nodes.ok)) (omega (arith, c.if-count-eq0.false)) c.index.ensures c.index-2.ensures in
    omega (arith, ap length c.blocks-2.ensures.value, all, ap (λ l. length (concat l)) c.self.view_is, block_count_bounded (concat c.args.self.now) c.requires)
