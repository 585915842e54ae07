-- The theorem is a lemma from the theorems on batches and on the step machine.
use Rattle.moc_script.proofs.Explained.{schedules_have_one_order as the_theorem}
use Rattle.moc_script.proofs.theorems.schedules_have_one_order.Goals as goal

pub returns : goal.returns
returns c = the_theorem c.batches_are_local.ensures c.steps_have_one_order.ensures
