use Rattle.moc_text.proofs.Represented.{readings_are_unique}
use Rattle.moc_text.proofs.ascii.reading.readings_are_unique.Goals as goal

pub returns : goal.returns
returns c = readings_are_unique
