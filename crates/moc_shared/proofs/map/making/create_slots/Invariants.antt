use Rattle.moc_shared.specs.Private.InitialSlots.{ArePartsOf}
use Rattle.moc_shared.proofs.map.making.create_slots.Given as goal

abbrev pub invariant-loop-k : goal.invariant-loop-k
invariant-loop-k l = ArePartsOf l.start l.slots.items l.k
