use Rattle.std.proofs.Common.{◌<◌, length, List, sym, ap, ◌∙◌, subst, Option, None, arith}
use Rattle.moc_shared.specs.History.{call_by}
use Rattle.moc_shared.specs.Private.Invariant.{parts_of_notes}
use Rattle.moc_shared.specs.Seats.{Pointer, ClientView}
use Rattle.moc_shared.specs.Private.Seats.{PartNote, part, IsInSky, slot_at, notes_below}
use Rattle.moc_shared.specs.Private.OperationEffects.{HasEffect}
use Rattle.moc_shared.specs.Private.Slots.{replies_to}
use Rattle.moc_shared.specs.Batches.{batch_answer}
use Rattle.moc_shared.proofs.SlotIndices.{top_note, none_from, no_note_of_empty_slot, place_set_same}
use Rattle.moc_shared.proofs.Guarantees.{single_client_after_call}
use Rattle.moc_shared.proofs.Replying.{update_has_contents}
use Rattle.moc_shared.proofs.calls.footprint.end_all.Goals as goal

pub unreachable-requires : goal.unreachable-requires
unreachable-requires c = let s = c.requires.some in
    update_has_contents c.args.slots.now c.args.edited.now s.0 s.1 s.2 c.requires.edited.same_parts
    (λ k. c.in_default.ensures.none k)

pub end_call-requires-clause-held : goal.end_call-requires-clause-held
end_call-requires-clause-held c =
    let h = c.in-Some.ensures.some in
    let word_count : c.in-Some.part < length c.args.edited.now = omega (arith, h.0, c.highest.ensures.long) in
    let top =
    top_note c.args.edited.now c.take_at.new.slots c.in-Some.part c.in-Some-take_at.pointer h.0 word_count h.2
    (sym c.take_at.ensures.0 ∙ c.in-Some-take_at.is) c.take_at.ensures.1 in (
      ap (λ (l : List PartNote). parts_of_notes l) c.requires.held.held ∙ sym c.requires.edited.same_parts
          ∙ ap (λ (l : List PartNote). parts_of_notes l) top,
      no_note_of_empty_slot c.take_at.new.slots 12 c.in-Some.part
          (ap (λ (l : List (Option Pointer)). slot_at l c.in-Some.part) c.take_at.ensures.1
          ∙ place_set_same c.args.edited.now c.in-Some.part None word_count),
    )

pub end_call-requires-clause-answered : goal.end_call-requires-clause-answered
end_call-requires-clause-answered c =
    let h = c.in-Some.ensures.some in
    let word_count : c.in-Some.part < length c.args.edited.now = omega (arith, h.0, c.highest.ensures.long) in
    let top =
    top_note c.args.edited.now c.take_at.new.slots c.in-Some.part c.in-Some-take_at.pointer h.0 word_count h.2
    (sym c.take_at.ensures.0 ∙ c.in-Some-take_at.is) c.take_at.ensures.1 in
    subst (λ (z : List PartNote × List PartNote). HasEffect part batch_answer IsInSky c.args.batch.now
    (replies_to c.args.slots.now c.args.batch.now) z.0 z.1) (λ i. (sym c.requires.held.held i, top i))
    c.requires.edited.effect

pub give_below-requires-clause-held : goal.give_below-requires-clause-held
give_below-requires-clause-held c =
    let v : ClientView = c.args.seat.now.me.0 in
    let cs = c.args.batch.now in
    let ended = c.end_call.ensures.ended in
    record {
      client = single_client_after_call (call_by v.mine.number cs (replies_to c.args.slots.now cs)) (notes_below c.take_at.new.slots 12) v c.end_call.new.seat.me.0
          c.requires.held.client ended;
      carried = c.end_call.ensures.carried;
      held = ap (λ (v : ClientView). v.holds) ended.1;
    }

pub give_below-requires-clause-end : goal.give_below-requires-clause-end
give_below-requires-clause-end c =
    let h = c.in-Some.ensures.some in
    let word_count : c.in-Some.part < length c.args.edited.now = omega (arith, h.0, c.highest.ensures.long) in (
      omega (arith, h.0, c.get.ensures.value),
      λ k l. none_from c.args.edited.now c.take_at.new.slots c.in-Some.part word_count h.2 c.take_at.ensures.1 k
          (omega (arith, l, c.get.ensures.value)),
    )
