use Rattle.std.proofs.Common.{rules}
use Rattle.moc_shared.specs.Private.Slots.{replies_to}
use Rattle.moc_shared.proofs.Guarantees.{ends_replied}
use Rattle.moc_shared.proofs.calls.execution.query.Goals as goal

pub returns : goal.returns
returns c = record {
  same = c.observe.ensures.same;
  executed = record {
    idle = c.observe.ensures.idle;
    ok = ends_replied c.args.batch.now c.args.seat.now.me.0 c.observe.new.seat.me.0
        (replies_to c.observe.new.copies c.args.batch.now) c.answer.result c.in_ok-observe.ensures.ok c.answer.ensures;
    err = search rules;
  };
}
