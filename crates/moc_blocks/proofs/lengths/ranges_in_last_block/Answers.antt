use Rattle.std.proofs.Common.{◌-◌, length, arith, ap, ◌∙◌}
use Rattle.moc_blocks.specs.Private.Built.{last_length}
use Rattle.moc_blocks.proofs.Building.{node_read}
use Rattle.moc_blocks.proofs.lengths.ranges_in_last_block.Goals as goal

pub returns-in-len1-up : goal.returns-in-len1-up
returns-in-len1-up c = c.ranges_in_block.ensures ∙ ap last_length c.blocks-in-len1-up.ensures.value ∙ node_read c.args.nodes.now c.node-item.result (length c.args.nodes.now - 1) (omega (arith, c.in-len1-up.len_at_least)) c.node-item.is c.blocks-in-len1-up.ensures.some
