use Rattle.std.proofs.Common.{ℕ, List, [], ◌∷◌, map, Option, refl, ap, sym, ◌∙◌, subst, Contains}
use Rattle.std.proofs.lemmas.Result.{IfOk-weaker, on_err_weaker}
use Rattle.std.specs.Arc.{arc_value}
use Rattle.moc_shared.specs.Seats.{table_index, note, Pointer}
use Rattle.moc_shared.specs.Private.Invariant.{parts_of_notes}
use Rattle.moc_shared.specs.Private.Seats.{PartNote, shared}
use Rattle.moc_shared.specs.Private.StepEffects.{with_misses}
use Rattle.moc_shared.proofs.Basics.{nothing_in_empty_list}
use Rattle.moc_shared.proofs.Guarantees.{idle_after}
use Rattle.moc_shared.proofs.SingleCommands.{single_client_holds, holds_only_part, ended_alone, undone_alone, client_unchanged_alone, client_unchanged_after_reply}
use Rattle.moc_shared.proofs.map.SharedMap.execute_in_part.Goals as goal

pub wait_for_slot-pointer-requires-clause-carried : goal.wait_for_slot-pointer-requires-clause-carried
wait_for_slot-pointer-requires-clause-carried g c = ap (λ (l : List (ℕ × Option Pointer)). map (λ x. x.0) l) c.requires.map.no_slot
    ∙ sym (ap (λ (l : List PartNote). map table_index (parts_of_notes l)) c.requires.map.no_part)

pub wait_for_slot-pointer-requires-clause-other : goal.wait_for_slot-pointer-requires-clause-other
wait_for_slot-pointer-requires-clause-other g c =
    λ y h. nothing_in_empty_list (note c.args.part y) (subst (λ (l : List PartNote). Contains l (note c.args.part y)) c.requires.map.no_part h)

pub execute_single-requires-clause-held : goal.execute_single-requires-clause-held
execute_single-requires-clause-held g c =
    let t = c.wait_for_slot-pointer.ensures.taken_or_missed in
    let v = with_misses c.args.client.now.seat.me.0 t.0 in
    holds_only_part c.args.client.now.seat.me.0 c.wait_for_slot-pointer.new.seat.me c.args.part (arc_value c.wait_for_slot-pointer.result) t.0
    c.requires.map.one (single_client_holds v c.wait_for_slot-pointer.new.seat.me.0 c.args.part (shared c.wait_for_slot-pointer.result) c.requires.map.no_part t.1)
    c.wait_for_slot-pointer.ensures.carried

pub returns : goal.returns
returns g c =
    let t = c.wait_for_slot-pointer.ensures.taken_or_missed in
    let part = c.args.part in
    let slots = shared c.wait_for_slot-pointer.result in
    let old = c.args.client.now.seat.me.0 in
    let mid = c.wait_for_slot-pointer.new.seat.me.0 in
    let new = c.execute_single.new.seat.me.0 in
    let held = single_client_holds (with_misses old t.0) mid part slots c.requires.map.no_part t.1 in
    record {
      map = idle_after c.args.self.now c.args.client.now record { number = c.args.client.now.number; seat = c.execute_single.new.seat } c.requires.map
          (client_unchanged_alone old mid new part slots t.0 held
          (client_unchanged_after_reply ((g.C.PartCommand.command c.args.command.now) ∷ []) mid new c.execute_single.result c.execute_single.ensures.ok c.execute_single.ensures.err))
          refl (c.execute_single.ensures.same.0 ∙ c.wait_for_slot-pointer.ensures.same.0 ∙ c.requires.map.table)
          c.execute_single.ensures.idle;
      number = refl;
      ok = IfOk-weaker c.execute_single.result _ _
          (λ reply determined. ended_alone (g.C.PartCommand.command c.args.command.now) part c.requires.single.met c.args.self.now reply c.args.client.now.number old mid new slots t.0
          c.requires.map.start c.requires.map.clients c.requires.map.number held t.2 determined)
          c.execute_single.ensures.ok;
      err = on_err_weaker c.execute_single.result
          (λ gave. undone_alone (g.C.PartCommand.command c.args.command.now) part c.requires.single.met c.args.self.now old mid new slots t.0 c.requires.map.clients held t.2 gave)
          c.execute_single.ensures.err;
    }
