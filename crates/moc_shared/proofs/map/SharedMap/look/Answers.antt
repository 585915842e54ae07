use Rattle.std.proofs.Common.{List, sym, subst, ◌∙◌}
use Rattle.moc_parts.specs.declared.command.Command.{Command}
use Rattle.moc_shared.specs.Clients.{call_of, TakesEffect, MissesPart, HasNoEffect}
use Rattle.moc_shared.specs.Private.Slots.{replies_to}
use Rattle.moc_shared.proofs.Guarantees.{ends_from, refuses_from, undone_after_start}
use Rattle.moc_shared.proofs.map.SharedMap.look.Goals as goal

pub returns-in-Err-clause-err : goal.returns-in-Err-clause-err
returns-in-Err-clause-err c = (
  subst (λ (cs : List Command). MissesPart c.args.self.now cs c.in-Err.busy c.args.client.now.seat.me.0.mine c.take_all.new.seat.me.0.mine) c.in-Ok.ensures
      (refuses_from c.args.self.now c.in-Ok.batch c.in-Err.busy c.args.client.now.seat.me.0 c.take_all.new.seat.me.0
      c.requires.map.clients c.in-Err.ensures.err.1),
  sym c.is_update.ensures ∙ c.if-is_update.false,
)

pub returns-in-Ok-observe-clause-ok : goal.returns-in-Ok-observe-clause-ok
returns-in-Ok-observe-clause-ok c =
    let t = c.in-Ok-take_all.ensures.ok in
    let replies = replies_to c.observe.new.copies c.in-Ok.batch in
    subst (λ (cs : List Command). TakesEffect c.args.self.now (call_of c.args.client.now cs replies) c.args.client.now.seat.me.0.mine c.observe.new.seat.me.0.mine) c.in-Ok.ensures
    (ends_from c.args.self.now c.in-Ok.batch replies c.args.client.now.number
    c.args.client.now.seat.me.0 c.take_all.new.seat.me.0 c.observe.new.seat.me.0 c.in-Ok-take_all.slots t.2
    c.requires.map.start c.requires.map.clients c.requires.map.number t.0 c.in-Ok-observe.ensures.ok)

pub returns-in-Err-observe-clause-err : goal.returns-in-Err-observe-clause-err
returns-in-Err-observe-clause-err c =
    let t = c.in-Ok-take_all.ensures.ok in (
      subst (λ (cs : List Command). HasNoEffect cs c.args.client.now.seat.me.0.mine c.observe.new.seat.me.0.mine) c.in-Ok.ensures
          (undone_after_start c.in-Ok.batch c.args.client.now.seat.me.0 c.take_all.new.seat.me.0 c.observe.new.seat.me.0 c.in-Ok-take_all.slots t.2 t.0
          c.in-Err-observe.ensures.err),
      sym c.is_update.ensures ∙ c.if-is_update.false,
    )
