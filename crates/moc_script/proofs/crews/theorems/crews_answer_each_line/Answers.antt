-- The theorem is a lemma.
use Rattle.moc_script.proofs.AllAnswered.{all_answered}
use Rattle.moc_script.proofs.crews.theorems.crews_answer_each_line.Goals as goal

pub returns : goal.returns
returns c = all_answered
