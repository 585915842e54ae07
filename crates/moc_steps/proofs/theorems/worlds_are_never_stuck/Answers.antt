use Rattle.moc_parts.specs.Batches.{batches}
use Rattle.moc_steps.proofs.AnyObject.{never_stuck}
use Rattle.moc_steps.proofs.theorems.worlds_are_never_stuck.Goals as goal

pub returns : goal.returns
returns c = never_stuck batches
