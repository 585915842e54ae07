use Rattle.std.proofs.Common.{rules, ◌≡◌, ℕ, suc, ◌+◌, ◌<◌, List, refl, sym, ap, ◌∙◌, subst, arith, Contains, map, set}
use Rattle.std.proofs.Common.{length, length-set, Option, Some}
use Rattle.moc_parts.specs.Batches.{footprint_of_all}
use Rattle.moc_parts.specs.Lemmas.{IsNext, all_remain, next_remaining, none_remaining}
use Rattle.moc_shared.specs.Seats.{table_index, note, Pointer, ClientView}
use Rattle.moc_shared.specs.Private.Invariant.{parts_of_notes}
use Rattle.moc_shared.specs.Private.Seats.{PartNote, notes_below}
use Rattle.moc_shared.specs.Private.Slots.{MissesTaking}
use Rattle.moc_shared.proofs.SlotSets.{slots_within_after_set}
use Rattle.moc_shared.proofs.SlotIndices.{start_parts, view_with_taken_part, parts_before_slot, parts_so_far, touched_so_far, slots_empty_after}
use Rattle.moc_shared.proofs.SlotIndices.{not_below, slot_index_of_note, holds_below, view_unchanged_if_refused, holder_known_before}
use Rattle.moc_shared.proofs.calls.footprint.take_all.Goals as goal

pub loop-part-init : goal.loop-part-init
loop-part-init c = record {
  next = 0;
  remains = all_remain (footprint_of_all c.args.batch.now) c.footprint-part-items.result c.into_iter-part-iterator.result c.footprint-part-items.ensures.parts c.into_iter-part-iterator.ensures.into_iter_gives;
  same = (refl, refl);
  carried = ap (λ (l : List (ℕ × Option Pointer)). map (λ x. x.0) l) c.requires.idle.1
      ∙ sym (ap (λ (l : List PartNote). map table_index (parts_of_notes l)) c.requires.idle.0);
  view = start_parts c.args.seat.now.me.0 c.args.seat.now.me.0 c.no_slots-slots.result refl c.requires.idle.0;
  long = search rules;
  so_far = λ k l. absurd (omega arith);
  beyond = λ k l. c.no_slots-slots.ensures.none k;
  own = c.no_slots-slots.ensures.own;
}

pub take_slot-requires-clause-other : goal.take_slot-requires-clause-other
take_slot-requires-clause-other c =
    let inv = c.loop-part.invariant in
    let b : ℕ = c.in-Some.part in
    let to = next_remaining (footprint_of_all c.args.batch.now) inv.next c.in-Some.part c.loop-part.part-iterator c.next.new.self inv.remains c.in-Some.ensures.steps in
    λ y h. not_below c.loop-part.slots b y
    (subst (λ (v : ClientView). Contains v.holds (note b y))
    (parts_before_slot c.args.seat.now.me.0 c.loop-part.seat.me.0 c.loop-part.slots inv.next b inv.view to.after inv.beyond) h)

pub give_all-requires-clause-held : goal.give_all-requires-clause-held
give_all-requires-clause-held c =
    let inv = c.loop-part.invariant in
    let b : ℕ = c.in-Some.part in
    let to = next_remaining (footprint_of_all c.args.batch.now) inv.next c.in-Some.part c.loop-part.part-iterator c.next.new.self inv.remains c.in-Some.ensures.steps in
    let after = to.after in
    record {
      client = search rules;
      carried = c.take_slot.ensures.carried;
      held = holds_below c.args.seat.now.me.0 c.loop-part.seat.me.0 c.take_slot.new.seat.me.0 c.loop-part.slots b c.in-Err.holder
          (parts_before_slot c.args.seat.now.me.0 c.loop-part.seat.me.0 c.loop-part.slots inv.next b inv.view after inv.beyond)
          c.in-Err.ensures.err.0 to.below (λ k l. inv.beyond k (omega (arith, after, l)));
    }

pub returns-in-Err-clause-err : goal.returns-in-Err-clause-err
returns-in-Err-clause-err c =
    let inv = c.loop-part.invariant in
    let cs = c.args.batch.now in
    let b : ℕ = c.in-Some.part in
    let to = next_remaining (footprint_of_all cs) inv.next c.in-Some.part c.loop-part.part-iterator c.next.new.self inv.remains c.in-Some.ensures.steps in
    let after = to.after in
    let init = c.args.seat.now.me.0 in
    let slots = c.loop-part.slots in
    let view = parts_before_slot init c.loop-part.seat.me.0 slots inv.next b inv.view after inv.beyond in
    let known =
    holder_known_before init c.loop-part.seat.me.0 (notes_below slots b) c.in-Err.holder view c.in-Err.ensures.err.1
    c.in-Err.ensures.err.2 in
    let so_far = parts_so_far cs slots inv.next b inv.so_far inv.beyond to.between in
    let refused : MissesTaking cs b c.in-Err.holder init c.give_all.new.seat.me.0 = (
      notes_below slots b,
      view_unchanged_if_refused init c.loop-part.seat.me.0 c.take_slot.new.seat.me.0 c.give_all.new.seat.me.0 slots b
          c.in-Err.holder view c.in-Err.ensures.err.0 (λ i. (c.give_all.ensures.given_back i).0),
      (λ p y h. slot_index_of_note cs slots b p y so_far h),
      to.passes,
      to.below,
      known.0,
      known.1,
    ) in (
      (λ i. (c.give_all.ensures.given_back i).1),
      refused,
    )

pub loop-part-preserved : goal.loop-part-preserved
loop-part-preserved c =
    let inv = c.loop-part.invariant in
    let cs = c.args.batch.now in
    let b : ℕ = c.in-Some.part in
    let to : IsNext (footprint_of_all cs) inv.next b c.next.new.self =
    next_remaining (footprint_of_all cs) inv.next b c.loop-part.part-iterator c.next.new.self inv.remains c.in-Some.ensures.steps in
    let up : b + 1 ≡ suc b = omega arith in
    let after = to.after in
    let slots = c.loop-part.slots in
    let new = c.put_at.new.slots in
    let pointer = c.in-Ok.pointer in
    let put : new ≡ set slots b (Some pointer) = c.put_at.ensures in
    let word_count : b < length slots = omega (arith, inv.long, to.below) in
    record {
      next = b + 1;
      remains = to.remains;
      same = (c.take_slot.ensures.same.0 ∙ inv.same.0, c.take_slot.ensures.same.1 ∙ inv.same.1);
      carried = c.take_slot.ensures.carried;
      view = view_with_taken_part c.args.seat.now.me.0 c.loop-part.seat.me.0 c.take_slot.new.seat.me.0 slots new b (b + 1) pointer
          (parts_before_slot c.args.seat.now.me.0 c.loop-part.seat.me.0 slots inv.next b inv.view after inv.beyond) up
          c.in-Ok.ensures.ok.0 put word_count;
      long = ap (λ (l : List (Option Pointer)). length l) put ∙ length-set slots b (Some pointer) ∙ inv.long;
      so_far = touched_so_far cs slots new b (b + 1) pointer
          (parts_so_far cs slots inv.next b inv.so_far inv.beyond to.between)
          up to.passes put word_count;
      beyond = slots_empty_after slots new b (b + 1) pointer (λ k l. inv.beyond k (omega (arith, after, l))) up put;
      own = slots_within_after_set slots new b pointer inv.own put word_count c.in-Ok.ensures.ok.1;
    }

pub returns-clause-ok : goal.returns-clause-ok
returns-clause-ok c =
    let inv = c.loop-part.invariant in
    let cs = c.args.batch.now in
    let rest = none_remaining (footprint_of_all cs) inv.next c.loop-part.part-iterator inv.remains c.in-None.ensures.steps.0 in (
      parts_before_slot c.args.seat.now.me.0 c.loop-part.seat.me.0 c.loop-part.slots inv.next 12 inv.view inv.remains.within
          inv.beyond,
      inv.carried,
      parts_so_far cs c.loop-part.slots inv.next 12 inv.so_far inv.beyond rest,
      inv.own,
    )
