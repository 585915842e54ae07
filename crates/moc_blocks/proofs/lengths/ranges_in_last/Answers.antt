use Rattle.std.proofs.Common.{arith, sym, ◌∙◌}
use Rattle.moc_blocks.specs.Blocks.{concat}
use Rattle.moc_blocks.proofs.Filling.{last_length-append}
use Rattle.moc_blocks.proofs.lengths.ranges_in_last.Goals as goal

pub returns-in_default : goal.returns-in_default
returns-in_default c = c.ranges_in_block.ensures ∙ sym (last_length-append (concat c.args.nodes.now) c.args.blocks.now (omega (arith, c.in_default.len_at_least)))
