use Rattle.std.proofs.Common.{rules, subst, Contains}
use Rattle.moc_shared.specs.Seats.{note, ClientView}
use Rattle.moc_shared.proofs.WaitingViews.{one_wait}
use Rattle.moc_shared.proofs.calls.waiting.wait_for_slot.Goals as goal

pub take_slot-requires-clause-other : goal.take_slot-requires-clause-other
take_slot-requires-clause-other g c =
    λ y h. c.requires.other y (subst (λ (v : ClientView). Contains v.holds (note c.args.part y)) c.loop.invariant.view.1 h)

pub loop-preserved : goal.loop-preserved
loop-preserved g c = let w = c.loop.invariant.view in let e = c.in-Err.ensures.err in record {
  same = search rules;
  carried = search rules;
  view = one_wait c.args.seat.now.me.0 c.loop.seat.me.0 c.take_slot.new.seat.me.0 c.args.part c.in-Err.holder w.0 w.1 w.2
      e.0 e.1 e.2;
}
