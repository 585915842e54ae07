use Rattle.std.proofs.Common.{length}
use Rattle.moc_parts.proofs.batch.+footprint_of_all.Given as goal

abbrev pub decreases-footprint_of_all : goal.decreases-footprint_of_all
decreases-footprint_of_all l = length l.commands.now
