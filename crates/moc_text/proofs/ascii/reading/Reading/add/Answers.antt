use Rattle.std.proofs.Common.{refl, sym}
use Rattle.moc_ranges.specs.Lemmas.{union-empty}
use Rattle.moc_text.proofs.ascii.reading.Reading.add.Goals as goal

pub returns-in_default : goal.returns-in_default
returns-in_default c = rw c.in_default.is (refl, refl, refl, sym (union-empty c.args.self.now.cells))
