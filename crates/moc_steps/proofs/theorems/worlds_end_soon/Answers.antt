use Rattle.moc_parts.specs.Batches.{batches}
use Rattle.moc_steps.proofs.AnyObject.{ends_well}
use Rattle.moc_steps.proofs.theorems.worlds_end_soon.Goals as goal

pub returns : goal.returns
returns c = ends_well batches
