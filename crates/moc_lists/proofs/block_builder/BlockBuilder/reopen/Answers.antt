use Rattle.std.proofs.Common.{arith, ◌∙◌, ap, length}
use Rattle.moc_blocks.proofs.Building.{concat_reopened_node}
use Rattle.moc_blocks.proofs.Filling.{some_blocks, grouped_after_pop, nodes_last}
use Rattle.moc_blocks.proofs.Blocking.{none_there}
use Rattle.std.proofs.lemmas.Grind.{common_steps}
use Rattle.moc_lists.proofs.block_builder.BlockBuilder.reopen.Goals as goal

pub returns-in_ok-self-clause-blocks : goal.returns-in_ok-self-clause-blocks
returns-in_ok-self-clause-blocks c = concat_reopened_node c.args.self.now.nodes.items c.pop.new.self.items c.in-Some.node c.args.self.now.blocks.items c.in_ok-self.field-0.items c.in-Some.ensures.items (c.in_ok-self.ensures ∙ c.blocks-in-Some.ensures.value) (none_there _ (omega arith))

pub returns-in_ok-self-clause-some : goal.returns-in_ok-self-clause-some
returns-in_ok-self-clause-some c = λ some. omega (arith, ap length (c.in_ok-self.ensures ∙ c.blocks-in-Some.ensures.value), some_blocks c.in-Some.node c.blocks-in-Some.ensures.some)

pub returns-in_default-clause-some : goal.returns-in_default-clause-some
returns-in_default-clause-some c = grind (arith, common_steps)

pub returns-in_ok-self-clause-wide : goal.returns-in_ok-self-clause-wide
returns-in_ok-self-clause-wide c =
    let last = nodes_last c.args.self.now.nodes.items c.pop.new.self.items c.args.self.now.blocks.items c.in-Some.node c.requires.wide c.in-Some.ensures.items in
    grouped_after_pop c.args.self.now.nodes.items c.pop.new.self.items c.args.self.now.blocks.items c.in_ok-self.field-0.items c.in-Some.node c.requires.wide c.in-Some.ensures.items (omega (arith, ap length (c.in_ok-self.ensures ∙ c.blocks-in-Some.ensures.value), last.0))
