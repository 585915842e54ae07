use Rattle.std.proofs.Common.{◌-◌, length, arith}
use Rattle.moc_blocks.proofs.Building.{test_below, test_reached}
use Rattle.moc_lists.proofs.builder.end_below.Goals as goal

pub returns-in-len1-up-clause-below : goal.returns-in-len1-up-clause-below
returns-in-len1-up-clause-below c = test_below c.args.f c.args.ranges.now (0, 0) (length c.args.ranges.now - 1) c.requires (omega (arith, c.in-len1-up.len_at_least))

pub returns-in-len1-up-clause-reached : goal.returns-in-len1-up-clause-reached
returns-in-len1-up-clause-reached c = test_reached c.args.f c.args.ranges.now (0, 0) (length c.args.ranges.now - 1) (omega (arith, c.in-len1-up.len_at_least))
