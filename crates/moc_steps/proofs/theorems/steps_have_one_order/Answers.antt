use Rattle.moc_parts.specs.Batches.{batches}
use Rattle.moc_steps.proofs.AnyObject.{one_order}
use Rattle.moc_steps.proofs.theorems.steps_have_one_order.Goals as goal

pub returns : goal.returns
returns c = one_order batches
