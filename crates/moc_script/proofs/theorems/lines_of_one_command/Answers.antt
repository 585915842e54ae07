-- The theorem is a lemma.
use Rattle.moc_script.proofs.Single.{lines_of_one_command as the_theorem}
use Rattle.moc_script.proofs.theorems.lines_of_one_command.Goals as goal

pub returns : goal.returns
returns c = the_theorem
