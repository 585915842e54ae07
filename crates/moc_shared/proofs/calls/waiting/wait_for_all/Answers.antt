use Rattle.std.proofs.Common.{rules, ◌≡◌, ℕ, suc, ◌+◌, ◌<◌, List, [], refl, sym, ap, ◌∙◌, subst, arith, Contains, map}
use Rattle.std.proofs.Common.{set, length, length-set, Option, Some}
use Rattle.moc_parts.specs.Batches.{footprint_of_all}
use Rattle.moc_parts.specs.Lemmas.{IsNext, all_remain, next_remaining, none_remaining}
use Rattle.moc_shared.specs.Seats.{table_index, note, Pointer, ClientView}
use Rattle.moc_shared.specs.Private.Invariant.{parts_of_notes}
use Rattle.moc_shared.specs.Private.Seats.{PartNote}
use Rattle.moc_shared.specs.Private.StepEffects.{with_misses}
use Rattle.moc_shared.specs.Private.Slots.{in_footprint}
use Rattle.moc_shared.proofs.SlotSets.{slots_within_after_set}
use Rattle.moc_shared.proofs.SlotIndices.{start_parts, parts_before_slot, parts_so_far, touched_so_far, slots_empty_after, not_below}
use Rattle.moc_shared.proofs.WaitingViews.{no_wait, view_after_taking}
use Rattle.moc_shared.proofs.calls.waiting.wait_for_all.Goals as goal

pub loop-part-init : goal.loop-part-init
loop-part-init g c = record {
  next = 0;
  remains = all_remain (footprint_of_all c.args.batch.now) c.footprint-part-items.result c.into_iter-part-iterator.result c.footprint-part-items.ensures.parts c.into_iter-part-iterator.ensures.into_iter_gives;
  same = (refl, refl);
  carried = ap (λ (l : List (ℕ × Option Pointer)). map (λ x. x.0) l) c.requires.idle.1
      ∙ sym (ap (λ (l : List PartNote). map table_index (parts_of_notes l)) c.requires.idle.0);
  view = (
    [],
    start_parts c.args.seat.now.me.0 c.args.seat.now.me.0 c.no_slots-slots.result refl c.requires.idle.0,
    no_wait (in_footprint c.args.batch.now) c.args.seat.now.me.0,
  );
  long = search rules;
  so_far = λ k l. absurd (omega arith);
  beyond = λ k l. c.no_slots-slots.ensures.none k;
  own = c.no_slots-slots.ensures.own;
}

pub wait_for_slot-requires-clause-other : goal.wait_for_slot-requires-clause-other
wait_for_slot-requires-clause-other g c =
    let inv = c.loop-part.invariant in
    let b : ℕ = c.in-Some.part in
    let to = next_remaining (footprint_of_all c.args.batch.now) inv.next c.in-Some.part c.loop-part.part-iterator c.next.new.self inv.remains c.in-Some.ensures.steps in
    let v = inv.view in
    λ y h. not_below c.loop-part.slots b y
    (subst (λ (v : ClientView). Contains v.holds (note b y))
    (parts_before_slot (with_misses c.args.seat.now.me.0 v.0) c.loop-part.seat.me.0 c.loop-part.slots inv.next b v.1 to.after inv.beyond) h)

pub loop-part-preserved : goal.loop-part-preserved
loop-part-preserved g c =
    let inv = c.loop-part.invariant in
    let cs = c.args.batch.now in
    let b : ℕ = c.in-Some.part in
    let to : IsNext (footprint_of_all cs) inv.next b c.next.new.self =
    next_remaining (footprint_of_all cs) inv.next b c.loop-part.part-iterator c.next.new.self inv.remains c.in-Some.ensures.steps in
    let up : b + 1 ≡ suc b = omega arith in
    let after = to.after in
    let init = c.args.seat.now.me.0 in
    let v = inv.view in
    let slots = c.loop-part.slots in
    let new = c.put_at.new.slots in
    let put : new ≡ set slots b (Some c.wait_for_slot.result) = c.put_at.ensures in
    let word_count : b < length slots = omega (arith, inv.long, to.below) in
    let t = c.wait_for_slot.ensures.taken_or_missed in
    record {
      next = b + 1;
      remains = to.remains;
      same = (c.wait_for_slot.ensures.same.0 ∙ inv.same.0, c.wait_for_slot.ensures.same.1 ∙ inv.same.1);
      carried = c.wait_for_slot.ensures.carried;
      view = view_after_taking cs init c.loop-part.seat.me.0 c.wait_for_slot.new.seat.me.0 slots new b (b + 1)
          c.wait_for_slot.result v.0 t.0
          (parts_before_slot (with_misses init v.0) c.loop-part.seat.me.0 slots inv.next b v.1 after inv.beyond) v.2
          t.1 t.2 to.passes up put word_count;
      long = ap (λ (l : List (Option Pointer)). length l) put ∙ length-set slots b (Some c.wait_for_slot.result) ∙ inv.long;
      so_far = touched_so_far cs slots new b (b + 1) c.wait_for_slot.result
          (parts_so_far cs slots inv.next b inv.so_far inv.beyond to.between)
          up to.passes put word_count;
      beyond = slots_empty_after slots new b (b + 1) c.wait_for_slot.result (λ k l. inv.beyond k (omega (arith, after, l))) up put;
      own = slots_within_after_set slots new b c.wait_for_slot.result inv.own put word_count c.wait_for_slot.ensures.own;
    }

pub returns-clause-slots : goal.returns-clause-slots
returns-clause-slots g c =
    let inv = c.loop-part.invariant in
    let cs = c.args.batch.now in
    let rest = none_remaining (footprint_of_all cs) inv.next c.loop-part.part-iterator inv.remains c.in-None.ensures.steps.0 in
    (parts_so_far cs c.loop-part.slots inv.next 12 inv.so_far inv.beyond rest, inv.own)

pub returns-clause-taken_or_missed : goal.returns-clause-taken_or_missed
returns-clause-taken_or_missed g c =
    let inv = c.loop-part.invariant in
    let v = inv.view in (
      v.0,
      parts_before_slot (with_misses c.args.seat.now.me.0 v.0) c.loop-part.seat.me.0 c.loop-part.slots inv.next 12 v.1
          inv.remains.within inv.beyond,
      v.2,
    )
