-- The theorem is a lemma.
use Rattle.moc_script.proofs.WholeScripts.{scripts_of_single_commands as the_theorem}
use Rattle.moc_script.proofs.theorems.scripts_of_single_commands.Goals as goal

pub returns : goal.returns
returns c = the_theorem
