use Rattle.moc_shared.specs.Private.Slots.{replies_to}
use Rattle.moc_shared.proofs.Guarantees.{history_at_end}
use Rattle.moc_shared.proofs.map.SharedMap.snapshot.Goals as goal

pub returns-in-Ok-clause-ok : goal.returns-in-Ok-clause-ok
returns-in-Ok-clause-ok c =
    let h = c.args.holding in
    history_at_end c.args.self.now h.batch (replies_to c.observe.new.copies h.batch) h.client.number h.client.seat.me.0
    c.observe.new.seat.me.0 c.requires.map.start c.requires.map.clients c.requires.map.number c.in-Ok.ensures.ok
