use Rattle.moc_operations.proofs.MeetingOn.{written_range_at_index}
use Rattle.moc_operations.proofs.range_intersection.write_if_nonempty.Goals as goal

pub returns-clause-appended : goal.returns-clause-appended
returns-clause-appended c = written_range_at_index c.args.out.now c.args.written c.args.from c.args.to c.from.result c.requires c.from.ensures
