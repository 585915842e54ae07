use Rattle.std.proofs.Common.{rules, ◌≡◌, ℕ, suc, sym, ap, ◌∙◌, arith, length-set, length, List, Option, None}
use Rattle.moc_shared.specs.Seats.{Pointer}
use Rattle.moc_shared.specs.Private.Seats.{notes_below}
use Rattle.moc_shared.specs.Private.StepEffects.{with_holds}
use Rattle.moc_shared.proofs.SlotIndices.{held_parts_below, next_note, given_back, notes_below_empty_slot, all_slots_given, not_below}
use Rattle.moc_shared.proofs.calls.footprint.give_below.Goals as goal

pub loop-number-init : goal.loop-number-init
loop-number-init c =
    let slots = c.args.slots.now in
    let b = c.args.end in
    record {
      same = search rules;
      carried = c.requires.held.carried;
      holds = held_parts_below c.args.seat.now.me.0 slots b c.requires.held.held c.requires.end.0 c.requires.end.1;
      within = c.requires.end.0;
      long = search rules;
    }

pub give_part-requires-clause-held : goal.give_part-requires-clause-held
give_part-requires-clause-held c =
    let b : ℕ = c.of-part.result in
    let up : c.loop-number.number ≡ suc b = omega (arith, c.of-part.ensures) in (
      notes_below c.loop-number.slots b,
      next_note c.args.seat.now.me.0 c.loop-number.seat.me.0 c.loop-number.slots
          c.loop-number.number b c.in-Some.pointer c.loop-number.invariant.holds up (sym c.take_at.ensures.0 ∙ c.in-Some.is),
      not_below c.loop-number.slots b,
    )

pub loop-number-preserved-in-Some : goal.loop-number-preserved-in-Some
loop-number-preserved-in-Some c =
    let b : ℕ = c.of-part.result in
    let up : c.loop-number.number ≡ suc b = omega (arith, c.of-part.ensures) in
    record {
      same = search rules;
      carried = c.give_part.ensures.carried;
      holds = given_back c.args.seat.now.me.0 c.loop-number.seat.me.0 _ c.loop-number.slots c.take_at.new.slots
          c.loop-number.number b c.in-Some.pointer c.loop-number.invariant.holds up (sym c.take_at.ensures.0 ∙ c.in-Some.is)
          c.take_at.ensures.1 c.give_part.ensures.given_back
          ∙ ap (λ j. with_holds c.args.seat.now.me.0 (notes_below c.take_at.new.slots j)) c.of-part.ensures;
      within = search rules;
      long = ap (λ (l : List (Option Pointer)). length l) c.take_at.ensures.1
          ∙ length-set c.loop-number.slots b None ∙ c.loop-number.invariant.long;
    }

pub loop-number-preserved : goal.loop-number-preserved
loop-number-preserved c =
    let b : ℕ = c.of-part.result in
    let up : c.loop-number.number ≡ suc b = omega (arith, c.of-part.ensures) in
    record {
      same = c.loop-number.invariant.same;
      carried = c.loop-number.invariant.carried;
      holds = notes_below_empty_slot c.args.seat.now.me.0 c.loop-number.seat.me.0 c.loop-number.slots c.take_at.new.slots
          c.loop-number.number b c.loop-number.invariant.holds up (sym c.take_at.ensures.0 ∙ c.in_default.is) c.take_at.ensures.1
          ∙ ap (λ j. with_holds c.args.seat.now.me.0 (notes_below c.take_at.new.slots j)) c.of-part.ensures;
      within = search rules;
      long = ap (λ (l : List (Option Pointer)). length l) c.take_at.ensures.1
          ∙ length-set c.loop-number.slots b None ∙ c.loop-number.invariant.long;
    }

pub returns-clause-given_back : goal.returns-clause-given_back
returns-clause-given_back c =
    all_slots_given c.args.seat.now.me.0 c.loop-number.seat.me c.loop-number.slots c.loop-number.number
    c.loop-number.invariant.holds (search rules) c.loop-number.invariant.carried
