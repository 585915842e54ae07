use Rattle.moc_blocks.proofs.Passing.{normal_ranges, range_read}
use Rattle.moc_blocks.proofs.search.range_ending_after.Goals as goal

pub first_ending_after-requires : goal.first_ending_after-requires
first_ending_after-requires c = normal_ranges c.args.ranges.now c.requires

pub returns : goal.returns
returns c = range_read c.args.limit c.args.ranges.now c.first_ending_after.result c.copied.result c.first_ending_after.ensures c.copied.ensures
