use Rattle.std.proofs.Common.{List, [], IfOk, OnErr, refl, ◌∙◌, subst}
use Rattle.std.proofs.lemmas.Result.{IfOk-weaker, on_err_weaker}
use Rattle.moc_shared.specs.History.{call_by}
use Rattle.moc_shared.proofs.Guarantees.{ends_from, fails_from, idle_after, client_unchanged_with_parts, client_unchanged_at_end}
use Rattle.moc_shared.proofs.SingleCommands.{only_command}
use Rattle.moc_shared.proofs.WaitingViews.{waits_from, client_unchanged_after_waiting}
use Rattle.moc_parts.specs.declared.command.Command.{Command}
use Rattle.moc_shared.specs.Clients.{record_of, call_of, TakesEffectAfterWaiting, FailsOutOfMemoryWaiting}
use Rattle.moc_shared.specs.Private.Seats.{notes_below}
use Rattle.moc_shared.specs.Private.StepEffects.{with_misses}
use Rattle.moc_shared.specs.Private.Slots.{BatchTakesEffect}
use Rattle.moc_shared.proofs.map.SharedMap.apply.Goals as goal

pub returns-clause-ok : goal.returns-clause-ok
returns-clause-ok g c =
    let t = c.wait_for_all-slots.ensures.taken_or_missed in
    let f = c.wait_for_all-slots.ensures.slots in
    let v = with_misses c.args.client.now.seat.me.0 t.0 in
    IfOk-weaker c.execute_held.result
    (λ r. BatchTakesEffect c.args.batch.now r [] c.wait_for_all-slots.new.seat.me.0 c.execute_held.new.seat.me.0)
    (λ r. TakesEffectAfterWaiting c.args.self.now (call_by c.args.client.now.number c.args.batch.now r)
    c.args.client.now.seat.me.0.mine c.execute_held.new.seat.me.0.mine)
    (λ r ended. (
      v.mine,
      waits_from c.args.self.now c.args.batch.now c.args.client.now.seat.me.0 t.0 c.requires.map.clients t.2,
      ends_from c.args.self.now c.args.batch.now r c.args.client.now.number v
          c.wait_for_all-slots.new.seat.me.0 c.execute_held.new.seat.me.0 c.wait_for_all-slots.result f.0 c.requires.map.start
          c.requires.map.clients c.requires.map.number t.1 ended,
    ))
    c.execute_held.ensures.executed.ok

pub returns-clause-map : goal.returns-clause-map
returns-clause-map g c =
    let t = c.wait_for_all-slots.ensures.taken_or_missed in
    let v = with_misses c.args.client.now.seat.me.0 t.0 in
    idle_after c.args.self.now c.args.client.now record
    { number = c.args.client.now.number; seat = c.execute_held.new.seat } c.requires.map
    (client_unchanged_after_waiting c.args.client.now.seat.me.0 c.execute_held.new.seat.me.0 t.0
    (client_unchanged_with_parts v c.wait_for_all-slots.new.seat.me.0 c.execute_held.new.seat.me.0
    (notes_below c.wait_for_all-slots.result 12) t.1
    (client_unchanged_at_end c.args.batch.now c.wait_for_all-slots.new.seat.me.0 c.execute_held.new.seat.me.0 c.execute_held.result
    c.execute_held.ensures.executed.ok c.execute_held.ensures.executed.err)))
    refl (c.execute_held.ensures.same.0 ∙ c.wait_for_all-slots.ensures.same.0 ∙ c.requires.map.table)
    c.execute_held.ensures.executed.idle

pub returns-clause-err : goal.returns-clause-err
returns-clause-err g c =
    let t = c.wait_for_all-slots.ensures.taken_or_missed in
    let f = c.wait_for_all-slots.ensures.slots in
    let v = with_misses c.args.client.now.seat.me.0 t.0 in
    on_err_weaker c.execute_held.result
    (λ failed. (
      v.mine,
      waits_from c.args.self.now c.args.batch.now c.args.client.now.seat.me.0 t.0 c.requires.map.clients t.2,
      fails_from c.args.self.now c.args.batch.now v c.wait_for_all-slots.new.seat.me.0 c.execute_held.new.seat.me.0
          c.wait_for_all-slots.result f.0 c.requires.map.start c.requires.map.clients t.1 failed,
    ))
    c.execute_held.ensures.executed.err

pub returns-in-Some-clause-ok : goal.returns-in-Some-clause-ok
returns-in-Some-clause-ok g c =
    let only = only_command c.commands.result.now c.command-item.result c.in-len1.len_at_least c.in-len1.len_below
    c.command-item.is ∙ c.commands.ensures.commands in
    subst (λ (cs : List Command). IfOk c.apply_in_part.result (λ r. TakesEffectAfterWaiting c.args.self.now
    (call_of c.args.client.now cs r) (record_of c.args.client.now) (record_of c.apply_in_part.new.client)))
    only c.apply_in_part.ensures.ok

pub returns-in-Some-clause-err : goal.returns-in-Some-clause-err
returns-in-Some-clause-err g c =
    let only = only_command c.commands.result.now c.command-item.result c.in-len1.len_at_least c.in-len1.len_below
    c.command-item.is ∙ c.commands.ensures.commands in
    subst (λ (cs : List Command). OnErr c.apply_in_part.result (FailsOutOfMemoryWaiting c.args.self.now cs
    (record_of c.args.client.now) (record_of c.apply_in_part.new.client)))
    only c.apply_in_part.ensures.err
