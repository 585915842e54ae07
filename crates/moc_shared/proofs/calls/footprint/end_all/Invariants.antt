use Rattle.moc_shared.specs.History.{call_by}
use Rattle.moc_shared.specs.Private.Seats.{notes_below}
use Rattle.moc_shared.specs.Private.Slots.{replies_to}
use Rattle.moc_shared.proofs.calls.footprint.end_all.Given as goal

abbrev pub ghosts-end_call : goal.ghosts-end_call
ghosts-end_call a =
    record {
      call = call_by a.seat.now.me.0.mine.number a.batch.now (replies_to a.slots.now a.batch.now);
      notes = notes_below a.rest.now 12;
    }
