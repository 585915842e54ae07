use Rattle.moc_parts.specs.Batches.{batches}
use Rattle.moc_steps.proofs.AnyObject.{answered_by_entry}
use Rattle.moc_steps.proofs.theorems.replies_are_the_entries.Goals as goal

pub returns : goal.returns
returns c = answered_by_entry batches
