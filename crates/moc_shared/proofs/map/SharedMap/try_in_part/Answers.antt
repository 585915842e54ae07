use Rattle.std.proofs.Common.{List, [], ◌∷◌, map, refl, ap, ◌∙◌, inl}
use Rattle.moc_shared.specs.History.{call_by}
use Rattle.moc_shared.specs.Seats.{table_index, note}
use Rattle.moc_shared.specs.Private.Invariant.{parts_of_notes}
use Rattle.moc_shared.specs.Private.Seats.{PartNote, shared}
use Rattle.moc_shared.proofs.CarriedSlots.{no_entries_of_no_keys}
use Rattle.moc_shared.proofs.Guarantees.{idle_after, client_unchanged_if_refused, refuses_from, client_unchanged_with_parts, client_unchanged_after_call, client_unchanged_after_release}
use Rattle.moc_shared.proofs.SingleCommands.{single_client_holds, tried_takes_effect, tried_has_no_effect, missed_alone}
use Rattle.moc_shared.proofs.map.SharedMap.try_in_part.Goals as goal

pub returns-in-Ok-execute_single : goal.returns-in-Ok-execute_single
returns-in-Ok-execute_single g c =
    let part = c.args.part in
    let content = shared c.in-Ok.pointer in
    let old = c.args.client.now.seat.me.0 in
    let mid = c.take_slot.new.seat.me.0 in
    let new = c.execute_single.new.seat.me.0 in
    let held = single_client_holds old mid part content c.requires.map.no_part c.in-Ok.ensures.ok.0 in
    record {
      map = idle_after c.args.self.now c.args.client.now record { number = c.args.client.now.number; seat = c.execute_single.new.seat } c.requires.map
          (client_unchanged_with_parts old mid new (note part content ∷ []) held
          (client_unchanged_after_call (call_by mid.mine.number ((g.C.PartCommand.command c.args.command.now) ∷ []) (c.in-Ok-execute_single.reply ∷ [])) mid new
          c.in-Ok-execute_single.ensures.ok))
          refl (c.execute_single.ensures.same.0 ∙ c.take_slot.ensures.same.0 ∙ c.requires.map.table)
          c.execute_single.ensures.idle;
      number = refl;
      ok = tried_takes_effect (g.C.PartCommand.command c.args.command.now) part c.requires.single.met c.args.self.now c.in-Ok-execute_single.reply
          c.args.client.now.number old mid new content c.requires.map.start c.requires.map.clients c.requires.map.number held
          c.in-Ok-execute_single.ensures.ok;
      err = tt;
    }

pub returns-in-Err-execute_single : goal.returns-in-Err-execute_single
returns-in-Err-execute_single g c =
    let part = c.args.part in
    let content = shared c.in-Ok.pointer in
    let old = c.args.client.now.seat.me.0 in
    let mid = c.take_slot.new.seat.me.0 in
    let new = c.execute_single.new.seat.me.0 in
    let held = single_client_holds old mid part content c.requires.map.no_part c.in-Ok.ensures.ok.0 in
    record {
      map = idle_after c.args.self.now c.args.client.now record { number = c.args.client.now.number; seat = c.execute_single.new.seat } c.requires.map
          (client_unchanged_with_parts old mid new (note part content ∷ []) held (client_unchanged_after_release mid new c.in-Err-execute_single.ensures.err))
          refl (c.execute_single.ensures.same.0 ∙ c.take_slot.ensures.same.0 ∙ c.requires.map.table)
          c.execute_single.ensures.idle;
      number = refl;
      ok = tt;
      err = inl (tried_has_no_effect (g.C.PartCommand.command c.args.command.now) part c.requires.single.met old mid new content held
          c.in-Err-execute_single.ensures.err);
    }

pub returns-in-Err : goal.returns-in-Err
returns-in-Err g c =
    let part = c.args.part in
    let old = c.args.client.now.seat.me.0 in
    let new = c.take_slot.new.seat.me.0 in
    let t = c.in-Err.ensures in
    let missed = missed_alone (g.C.PartCommand.command c.args.command.now) part c.requires.single.met old new c.in-Err.holder t.in_range c.requires.map.no_part
    t.err.0 t.err.1 t.err.2 in
    record {
      map = client_unchanged_if_refused c.args.self.now c.args.client.now record { number = c.args.client.now.number; seat = c.take_slot.new.seat }
          part c.in-Err.holder ((g.C.PartCommand.command c.args.command.now) ∷ []) c.requires.map refl (c.take_slot.ensures.same.0 ∙ c.requires.map.table)
          (no_entries_of_no_keys c.take_slot.new.seat.me.1 (c.take_slot.ensures.carried
          ∙ (λ i. map table_index (parts_of_notes (t.err.0 i).holds))
          ∙ ap (λ (l : List PartNote). map table_index (parts_of_notes l)) c.requires.map.no_part))
          missed;
      number = refl;
      ok = tt;
      err = refuses_from c.args.self.now ((g.C.PartCommand.command c.args.command.now) ∷ []) record { part = part; holder = c.in-Err.holder } old new
          c.requires.map.clients missed;
    }
