use Rattle.std.proofs.Common.{◌∙◌, List, [], ◌∷◌, map, Some, ap, sym, subst, arith}
use Rattle.std.specs.Arc.{arc_value}
use Rattle.moc_shared.specs.Seats.{table_index, note}
use Rattle.moc_shared.specs.Private.Invariant.{parts_of_notes}
use Rattle.moc_shared.specs.Private.Seats.{PartNote, part, IsInSky}
use Rattle.moc_shared.specs.Batches.{batch_answer}
use Rattle.moc_shared.specs.Private.OperationEffects.{HasEffect}
use Rattle.moc_shared.specs.Private.StepEffects.{with_holds, rest_of_list}
use Rattle.moc_shared.proofs.Basics.{nothing_in_empty_list}
use Rattle.moc_shared.proofs.CarriedSlots.{no_entries_of_no_keys}
use Rattle.moc_shared.proofs.Replying.{local_batch}
use Rattle.moc_shared.proofs.SingleCommands.{answers_alone}
use Rattle.moc_shared.proofs.calls.single.execute_single.Goals as goal

pub end_single-requires-clause-held : goal.end_single-requires-clause-held
end_single-requires-clause-held g c = ap (λ (l : List PartNote). parts_of_notes l) c.requires.held.held

pub end_single-requires-clause-answered : goal.end_single-requires-clause-answered
end_single-requires-clause-answered g c =
    let local = local_batch ((g.C.PartCommand.command c.args.command.now) ∷ []) c.batches_are_local.ensures (omega arith) (c.requires.single.valid, tt) in
    subst (λ (l : List PartNote). HasEffect part batch_answer IsInSky ((g.C.PartCommand.command c.args.command.now) ∷ []) (c.in-Ok.reply ∷ []) l
    (note c.args.part (Some (arc_value c.execute_on.new.pointer)) ∷ [])) (sym c.requires.held.held)
    (answers_alone (g.C.PartCommand.command c.args.command.now) c.args.part c.requires.single.met (arc_value c.args.pointer)
    (arc_value c.execute_on.new.pointer) c.in-Ok.reply local c.in-Ok.ensures.set c.in-Ok.ensures.reply)

pub give_part-requires-clause-held : goal.give_part-requires-clause-held
give_part-requires-clause-held g c = (
  [],
  c.requires.held.held ∙ (λ i. note c.args.part (Some (sym c.in-Err.ensures.unchanged i)) ∷ []),
  λ y h. nothing_in_empty_list (note c.args.part y) h,
)

pub returns-in-Err-clause-idle : goal.returns-in-Err-clause-idle
returns-in-Err-clause-idle g c =
    no_entries_of_no_keys c.give_part.new.seat.me.1
    (c.give_part.ensures.carried ∙ (λ i. map table_index (parts_of_notes (c.give_part.ensures.given_back i).holds))
    ∙ (λ i. map table_index (parts_of_notes (rest_of_list (c.requires.held.held i)))))

pub returns-in-Err-clause-err : goal.returns-in-Err-clause-err
returns-in-Err-clause-err g c = c.give_part.ensures.given_back
    ∙ (λ i. with_holds c.args.seat.now.me.0 (rest_of_list (c.requires.held.held i)))
