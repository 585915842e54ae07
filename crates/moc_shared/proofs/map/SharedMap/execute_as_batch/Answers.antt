use Rattle.std.proofs.Common.{rules, List, [], ◌∷◌, refl, subst}
use Rattle.moc_parts.specs.declared.command.Command.{Command}
use Rattle.moc_shared.specs.Clients.{TakesEffectAfterWaiting, FailsOutOfMemoryWaiting, call_of}
use Rattle.moc_shared.proofs.SingleCommands.{at_err, only_reply, one_reply, failed_at_once}
use Rattle.moc_shared.proofs.map.SharedMap.execute_as_batch.Goals as goal

pub into_only-requires : goal.into_only-requires
into_only-requires g c =
    let waited = subst (λ (cs : List Command). TakesEffectAfterWaiting c.args.self.now (call_of c.args.client.now cs c.in_ok-replies.replies)
    c.args.client.now.seat.me.0.mine c.apply.new.client.seat.me.0.mine) c.in_ok-batch.ensures c.in_ok-replies.ensures.ok in
    only_reply c.args.self.now c.args.command c.in_ok-replies.replies c.args.client.now.number waited.0
    c.apply.new.client.seat.me.0.mine waited.2

pub returns-in_err-batch : goal.returns-in_err-batch
returns-in_err-batch g c = record {
  map = c.requires;
  number = refl;
  ok = search rules;
  err = at_err c.from_residual.result
      (failed_at_once c.args.self.now (c.args.command ∷ []) c.args.client.now.seat.me.0.mine);
}

pub returns-in_err-replies : goal.returns-in_err-replies
returns-in_err-replies g c = record {
  map = c.apply.ensures.map;
  number = c.apply.ensures.number;
  ok = search rules;
  err = at_err c.from_residual-in_err-replies.result
      (subst (λ (cs : List Command). FailsOutOfMemoryWaiting c.args.self.now cs c.args.client.now.seat.me.0.mine
      c.apply.new.client.seat.me.0.mine) c.in_ok-batch.ensures c.in_err-replies.ensures.err);
}

pub returns : goal.returns
returns g c = record {
  map = c.apply.ensures.map;
  number = c.apply.ensures.number;
  ok = one_reply c.args.self.now c.args.client.now.number c.in_ok-batch.batch c.args.command c.in_ok-replies.replies
      c.into_only.result c.args.client.now.seat.me.0.mine c.apply.new.client.seat.me.0.mine c.in_ok-batch.ensures
      c.into_only.ensures c.in_ok-replies.ensures.ok;
  err = tt;
}
