use Rattle.std.proofs.Common.{List, ℕ, ap, sym, subst, ◌∙◌, rules}
use Rattle.moc_blocks.specs.Blocks.{concat, AreBlocks}
use Rattle.moc_blocks.specs.RangeList.{IsNormal}
use Rattle.moc_blocks.proofs.Building.{concat_with_node}
use Rattle.moc_blocks.proofs.Filling.{fill_rule_suffix, grouped_after_push}
use Rattle.moc_blocks.proofs.Blocking.{IsNormal-suffix, concat-append}
use Rattle.moc_lists.proofs.block_builder.BlockBuilder.seal_node.Goals as goal

pub new-requires-clause-normal : goal.new-requires-clause-normal
new-requires-clause-normal c =
    let bs = c.reopen_if_fits.new.self.blocks.items in
    let ns = concat c.reopen_if_fits.new.self.nodes.items in
    let whole = subst (λ (l : List (List (ℕ × ℕ))). IsNormal (concat l)) (sym c.in_ok-reopen_if_fits.ensures.blocks) c.requires.normal in
    let normal = IsNormal-suffix (concat ns) (concat bs) (subst IsNormal (concat-append ns bs) whole) in
    subst (λ (l : List (List (ℕ × ℕ))). IsNormal (concat l)) (sym (ap (λ v. v.items) c.replace-blocks.ensures.value)) normal

pub new-requires-clause-sized : goal.new-requires-clause-sized
new-requires-clause-sized c =
    let whole = subst AreBlocks (sym c.in_ok-reopen_if_fits.ensures.blocks) c.requires.sized in
    subst AreBlocks (sym (ap (λ v. v.items) c.replace-blocks.ensures.value)) (fill_rule_suffix 128 (concat c.reopen_if_fits.new.self.nodes.items) c.reopen_if_fits.new.self.blocks.items whole)

pub returns-clause-blocks : goal.returns-clause-blocks
returns-clause-blocks c =
    concat_with_node c.reopen_if_fits.new.self.nodes.items c.push.new.self.items c.in_ok-node.node c.reopen_if_fits.new.self.blocks.items c.replace-blocks.new.dest.items c.in_ok-push.ensures.items (c.in_ok-node.ensures ∙ ap (λ v. v.items) c.replace-blocks.ensures.value) (ap (λ v. v.items) c.replace-blocks.ensures.after ∙ c.new-none.ensures.items)
    ∙ c.in_ok-reopen_if_fits.ensures.blocks

pub returns-clause-wide : goal.returns-clause-wide
returns-clause-wide c = grouped_after_push c.reopen_if_fits.new.self.nodes.items c.push.new.self.items c.reopen_if_fits.new.self.blocks.items c.replace-blocks.new.dest.items c.in_ok-node.node c.in_ok-reopen_if_fits.ensures.wide c.in_ok-reopen_if_fits.ensures.apart c.in_ok-push.ensures.items (c.in_ok-node.ensures ∙ ap (λ v. v.items) c.replace-blocks.ensures.value) (ap (λ v. v.items) c.replace-blocks.ensures.after ∙ c.new-none.ensures.items) (search rules)
