use Rattle.std.proofs.Common.{◌-◌, length, arith, ap, ◌∙◌}
use Rattle.moc_blocks.proofs.Filling.{length_read}
use Rattle.moc_blocks.proofs.lengths.blocks_in_last.Goals as goal

pub returns-in-len1-up-clause-value : goal.returns-in-len1-up-clause-value
returns-in-len1-up-clause-value c = ap length c.blocks-in-len1-up.ensures.value ∙ length_read c.args.nodes.now c.node-item.result (length c.args.nodes.now - 1) (omega (arith, c.in-len1-up.len_at_least)) c.node-item.is
