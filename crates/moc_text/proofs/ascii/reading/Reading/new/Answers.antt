use Rattle.moc_text.proofs.ReadWords.{progress_none}
use Rattle.moc_text.proofs.ascii.reading.Reading.new.Goals as goal

pub returns : goal.returns
returns c = λ text. rw c.new.ensures (progress_none text)
