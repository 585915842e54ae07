use Rattle.moc_blocks.proofs.Splicing.{part_normal}
use Rattle.moc_blocks.proofs.edits.splice.Splice.old_width.Goals as goal

pub width_of_ranges-requires : goal.width_of_ranges-requires
width_of_ranges-requires c = part_normal c.in-Join.place _ c.args.ranges.now c.requires.normal

pub width_of_ranges-requires-in-Replace : goal.width_of_ranges-requires-in-Replace
width_of_ranges-requires-in-Replace c = part_normal c.in-Replace.place _ c.args.ranges.now c.requires.normal
