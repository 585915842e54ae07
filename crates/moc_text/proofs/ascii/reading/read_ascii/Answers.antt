use Rattle.moc_text.proofs.UniqueReading.{set_is_unique}
use Rattle.moc_text.proofs.ascii.reading.read_ascii.Goals as goal

pub returns-in-Some-clause-reported : goal.returns-in-Some-clause-reported
returns-in-Some-clause-reported c = rw (c.in_ok-set.ensures, c.order.ensures) c.in-Some.ensures.reading

pub returns-in-Some-clause-reading : goal.returns-in-Some-clause-reading
returns-in-Some-clause-reading c = λ a k said. rw (c.in_ok-set.ensures, c.order.ensures) (set_is_unique c.args.text.now _ a _ k c.in-Some.ensures.represents said)
