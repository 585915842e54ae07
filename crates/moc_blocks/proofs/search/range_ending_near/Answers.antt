use Rattle.moc_blocks.proofs.Passing.{normal_ranges, range_read}
use Rattle.moc_blocks.proofs.search.range_ending_near.Goals as goal

pub first_ending_near-requires : goal.first_ending_near-requires
first_ending_near-requires c = normal_ranges c.args.ranges.now c.requires

pub returns : goal.returns
returns c = range_read c.args.limit c.args.ranges.now c.first_ending_near.result c.copied.result c.first_ending_near.ensures c.copied.ensures
