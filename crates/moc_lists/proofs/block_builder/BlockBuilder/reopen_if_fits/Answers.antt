use Rattle.std.proofs.Common.{◌++◌, ◌∷◌, [], List, ℕ, length, length-append, ap, ◌∙◌, arith}
use Rattle.moc_blocks.specs.Private.Built.{last_length}
use Rattle.moc_blocks.proofs.Filling.{last_length-append, grouped_after_pop, nodes_last, nodes_widened}
use Rattle.moc_lists.proofs.block_builder.BlockBuilder.reopen_if_fits.Goals as goal

pub returns-in_ok-append-clause-blocks : goal.returns-in_ok-append-clause-blocks
returns-in_ok-append-clause-blocks c =
    let bs = c.args.self.now.blocks.items in
    let made = c.in_ok-append.ensures.items ∙ ap (λ (l : List (List (ℕ × ℕ))). l ++ bs) (c.in_ok-both.ensures ∙ c.blocks-in-Some.ensures.value) in
    nodes_widened c.args.self.now.nodes.items c.pop.new.self.items bs c.append.new.self.items c.in-Some.node c.in-Some.ensures.items made

pub returns-in_ok-append-clause-wide : goal.returns-in_ok-append-clause-wide
returns-in_ok-append-clause-wide c =
    let bs = c.args.self.now.blocks.items in
    let made = c.in_ok-append.ensures.items ∙ ap (λ (l : List (List (ℕ × ℕ))). l ++ bs) (c.in_ok-both.ensures ∙ c.blocks-in-Some.ensures.value) in
    let last = ap last_length c.in-Some.ensures.items ∙ last_length-append c.pop.new.self.items (c.in-Some.node ∷ []) (omega arith) in
    grouped_after_pop c.args.self.now.nodes.items c.pop.new.self.items bs c.append.new.self.items c.in-Some.node c.requires.wide c.in-Some.ensures.items (omega (arith, ap length made, length-append c.in-Some.node bs, last, c.blocks_in_last.ensures.value, ap last_length c.deref.ensures.value, c.if-len-blocks_in_last.false, c.requires.wide.fits))

pub returns-in_ok-append-clause-apart : goal.returns-in_ok-append-clause-apart
returns-in_ok-append-clause-apart c = λ some.
    let bs = c.args.self.now.blocks.items in
    let made = c.in_ok-append.ensures.items ∙ ap (λ (l : List (List (ℕ × ℕ))). l ++ bs) (c.in_ok-both.ensures ∙ c.blocks-in-Some.ensures.value) in
    let last = nodes_last c.args.self.now.nodes.items c.pop.new.self.items bs c.in-Some.node c.requires.wide c.in-Some.ensures.items in
    omega (arith, ap length made, length-append c.in-Some.node bs, last.1 some)
