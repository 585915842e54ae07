use Rattle.std.proofs.Common.{◌-◌, length, arith, ap, ◌∙◌}
use Rattle.moc_blocks.proofs.Filling.{length_read}
use Rattle.moc_blocks.proofs.lengths.ranges_in_block.Goals as goal

pub returns-in-len1-up : goal.returns-in-len1-up
returns-in-len1-up c = ap length c.ranges-in-len1-up.ensures.value ∙ length_read c.args.blocks.now c.block-item.result (length c.args.blocks.now - 1) (omega (arith, c.in-len1-up.len_at_least)) c.block-item.is
