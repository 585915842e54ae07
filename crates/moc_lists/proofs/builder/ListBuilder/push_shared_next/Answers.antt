use Rattle.std.proofs.Common.{◌∙◌, sym}
use Rattle.moc_blocks.specs.Blocks.{concat}
use Rattle.moc_lists.proofs.MovedBlocks.{can_append_first, moves_first}
use Rattle.moc_blocks.proofs.Basics.{part_shorter}
use Rattle.moc_lists.proofs.builder.ListBuilder.push_shared_next.Goals as goal

pub push_shared_node-requires : goal.push_shared_node-requires
push_shared_node-requires c = record {
  normal = can_append_first _ c.args.xs.now (concat c.in-Some.node.now) c.take_node_below.new.self c.requires.built c.requires.normal c.in-Some.ensures.parts c.in-Some.ensures.some c.requires.after;
}

pub returns-in-Some-clause-carried : goal.returns-in-Some-clause-carried
returns-in-Some-clause-carried c =
    moves_first _ _ c.args.xs.now (concat c.in-Some.node.now) c.take_node_below.new.self c.args.limit c.requires.normal c.in-Some.ensures.parts c.in-Some.ensures.below c.in_ok-push_shared_node.ensures.built c.in_ok-push_shared_node.ensures.appended

pub push_shared-requires-clause-normal : goal.push_shared-requires-clause-normal
push_shared-requires-clause-normal c =
    can_append_first _ c.args.xs.now c.in-Some-take_block_below.block.now c.take_block_below.new.self c.requires.built c.requires.normal (sym c.in_default.ensures.parts ∙ c.in-Some-take_block_below.ensures.parts) c.in-Some-take_block_below.ensures.some c.requires.after

pub returns-in-Some-take_block_below-clause-carried :
    goal.returns-in-Some-take_block_below-clause-carried
returns-in-Some-take_block_below-clause-carried c =
    moves_first _ _ c.args.xs.now c.in-Some-take_block_below.block.now c.take_block_below.new.self c.args.limit c.requires.normal (sym c.in_default.ensures.parts ∙ c.in-Some-take_block_below.ensures.parts) c.in-Some-take_block_below.ensures.below c.in_ok-push_shared.ensures.built c.in_ok-push_shared.ensures.appended

pub returns-in-Some-clause-some : goal.returns-in-Some-clause-some
returns-in-Some-clause-some c = part_shorter _ _ _ c.in-Some.ensures.parts c.in-Some.ensures.some

pub returns-in-Some-take_block_below-clause-some : goal.returns-in-Some-take_block_below-clause-some
returns-in-Some-take_block_below-clause-some c =
    part_shorter _ _ _ (sym c.in_default.ensures.parts ∙ c.in-Some-take_block_below.ensures.parts) c.in-Some-take_block_below.ensures.some
