use Rattle.std.proofs.Common.{sym, subst, List, []}
use Rattle.moc_parts.specs.declared.reply.Reply.{Reply}
use Rattle.moc_shared.specs.Private.Slots.{BatchTakesEffect}
use Rattle.moc_shared.proofs.Replying.{local_batch, pointers_of_footprint}
use Rattle.moc_shared.proofs.calls.execution.update.Goals as goal

pub end_all-requires-clause-some : goal.end_all-requires-clause-some
end_all-requires-clause-some c =
    let local =
    local_batch c.args.batch.now c.batches_are_local.ensures c.commands.ensures.some c.commands.ensures.valid in
    pointers_of_footprint c.args.batch.now c.args.slots.now c.requires.held.footprint local

pub returns-in-Ok-clause-executed : goal.returns-in-Ok-clause-executed
returns-in-Ok-clause-executed c = record {
  idle = c.end_all.ensures.ended.0;
  ok = subst (λ (r : List Reply). BatchTakesEffect c.args.batch.now r [] c.args.seat.now.me.0 c.end_all.new.seat.me.0)
      (sym c.in-Ok.ensures.replies) c.end_all.ensures.ended.1;
  err = tt;
}
