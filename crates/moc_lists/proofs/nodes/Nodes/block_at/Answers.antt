use Rattle.std.proofs.Common.{ℕ, ◌-◌, List, length, get_or, ap, ◌∙◌, arith}
use Rattle.moc_blocks.proofs.Stepping.{block_at_place}
use Rattle.moc_blocks.proofs.Places.{start_count_zero, none_left, start_of_count, inside_starts}
use Rattle.moc_lists.proofs.nodes.Nodes.block_at.Goals as goal

pub returns-then-begun-eq0 : goal.returns-then-begun-eq0
returns-then-begun-eq0 c = start_count_zero c.args.self.now c.args.place c.count_started-begun.result c.count_started-begun.ensures c.if-begun-eq0.true

pub index-requires : goal.index-requires
index-requires c =
    let inside = inside_starts c.self.inside.nodes.items c.args.self.now c.self.inside.starts.items c.args.place c.count_started-begun.result c.self.invariant.placed c.self.view_is c.count_started-begun.ensures c.if-begun-eq0.false in
    omega (arith, inside.0, c.self.inside.starts.ok)

pub index-requires-2 : goal.index-requires-2
index-requires-2 c =
    let inside = inside_starts c.self.inside.nodes.items c.args.self.now c.self.inside.starts.items c.args.place c.count_started-begun.result c.self.invariant.placed c.self.view_is c.count_started-begun.ensures c.if-begun-eq0.false in
    omega (arith, inside.1, c.self.inside.nodes.ok)

pub overflow_sub-left : goal.overflow_sub-left
overflow_sub-left c = (start_of_count c.self.inside.nodes.items c.args.self.now c.self.inside.starts.items c.args.place c.count_started-begun.result c.index.result.now c.self.invariant.placed c.self.view_is c.count_started-begun.ensures c.if-begun-eq0.false c.index.ensures).1

pub returns-then-left-blocks : goal.returns-then-left-blocks
returns-then-left-blocks c =
    let place = c.count_started-begun.result - 1 in
    let inside = inside_starts c.self.inside.nodes.items c.args.self.now c.self.inside.starts.items c.args.place c.count_started-begun.result c.self.invariant.placed c.self.view_is c.count_started-begun.ensures c.if-begun-eq0.false in
    let here = start_of_count c.self.inside.nodes.items c.args.self.now c.self.inside.starts.items c.args.place c.count_started-begun.result c.index.result.now c.self.invariant.placed c.self.view_is c.count_started-begun.ensures c.if-begun-eq0.false c.index.ensures in
    let blocks = c.blocks-blocks.ensures.value in
    block_at_place c.args.self.now place (c.args.place - c.index.result.now) c.args.place c.index-2.result.now c.index-blocks-left.result inside.2
    (c.index-2.ensures ∙ ap (λ (l : List (List (List (ℕ × ℕ)))). get_or l place c.index-2.result.now) c.self.view_is)
    (omega (arith, here.0, here.1)) (omega (arith, c.if-left-blocks.true, ap length blocks))
    (c.index-blocks-left.is ∙ ap (λ (l : List (List (ℕ × ℕ))). get_or l (c.args.place - c.index.result.now) c.index-blocks-left.result) blocks)

pub returns : goal.returns
returns c =
    let place = c.count_started-begun.result - 1 in
    let here = start_of_count c.self.inside.nodes.items c.args.self.now c.self.inside.starts.items c.args.place c.count_started-begun.result c.index.result.now c.self.invariant.placed c.self.view_is c.count_started-begun.ensures c.if-begun-eq0.false c.index.ensures in
    none_left c.args.self.now c.args.place c.count_started-begun.result c.index.result.now c.index-2.result.now c.count_started-begun.ensures (omega (arith, c.if-begun-eq0.false))
    (c.index-2.ensures ∙ ap (λ (l : List (List (List (ℕ × ℕ)))). get_or l place c.index-2.result.now) c.self.view_is)
    here.0 (omega (arith, c.if-left-blocks.false, ap length c.blocks-blocks.ensures.value))
