use Rattle.std.proofs.Common.{length}
use Rattle.moc_parts.proofs.batch.+prove_all_in_sky.Given as goal

abbrev pub decreases-prove_all_in_sky : goal.decreases-prove_all_in_sky
decreases-prove_all_in_sky l = length l.commands.now
