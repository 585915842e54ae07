-- The theorem is a lemma.
use Rattle.moc_script.proofs.WholeScripts.{scripts_without_order as the_theorem}
use Rattle.moc_script.proofs.theorems.scripts_without_order.Goals as goal

pub returns : goal.returns
returns c = the_theorem
