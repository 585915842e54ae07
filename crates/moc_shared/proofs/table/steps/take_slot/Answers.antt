use Rattle.std.proofs.Common.{◌≡◌, suc, ◌-◌, ◌<◌, Option, Some, sym, ap, ◌∙◌, subst, arith}
use Rattle.atomic_table.specs.Table.{Me}
use Rattle.moc_shared.specs.Seats.{Pointer, ClientView}
use Rattle.moc_shared.specs.Private.Seats.{content, IsCarried}
use Rattle.moc_shared.specs.Private.StepEffects.{with_part}
use Rattle.moc_shared.proofs.SlotSets.{never_out, pointer_within_part, slots_after_removal}
use Rattle.moc_shared.proofs.table.steps.take_slot.Goals as goal

pub unreachable-requires : goal.unreachable-requires
unreachable-requires c =
    let t = c.take_part-old_word.ensures.taken_or_missed.0 c.if-old_word-eq0.true in
    let same : t.0 ≡ c.exchange.result =
    slots_after_removal c.take_part-old_word.new.seat.me.1 _ _ t.0 c.exchange.result _ _ (λ i. (t.3 i).1)
    c.exchange.ensures.2 in
    never_out c.exchange.result c.args.part t.1 (ap content (sym same) ∙ t.2) c.in_default.is

pub overflow_cast-result : goal.overflow_cast-result
overflow_cast-result c =
    let up : c.take_part-old_word.result ≡ suc (c.take_part-old_word.result - 1) = omega arith in
    let t = c.take_part-old_word.ensures.taken_or_missed.1 (c.take_part-old_word.result - 1) up in
    let below : c.take_part-old_word.result - 1 < c.args.seat.now.me.0.clients = t.1 in
    let within_max = c.requires.bounded in
    omega arith

pub returns-in-Some-clause-ok : goal.returns-in-Some-clause-ok
returns-in-Some-clause-ok c =
    let t = c.take_part-old_word.ensures.taken_or_missed.0 c.if-old_word-eq0.true in
    let same : t.0 ≡ c.exchange.result =
    slots_after_removal c.take_part-old_word.new.seat.me.1 _ _ t.0 c.exchange.result _ _ (λ i. (t.3 i).1)
    c.exchange.ensures.2 in
    let is : content t.0 ≡ content (Some c.in-Some.pointer) = ap content (same ∙ c.in-Some.is) in (
      (λ i. (c.exchange.ensures.3 i).0) ∙ (λ i. (t.3 i).0)
          ∙ ap (λ (y : Option _). with_part c.args.seat.now.me.0 c.args.part y) is,
      pointer_within_part c.in-Some.pointer c.args.part t.1
          (sym is ∙ t.2),
    )

pub returns-else-old_word-eq0-clause-carried : goal.returns-else-old_word-eq0-clause-carried
returns-else-old_word-eq0-clause-carried c =
    let up : c.take_part-old_word.result ≡ suc (c.take_part-old_word.result - 1) = omega arith in
    let t = c.take_part-old_word.ensures.taken_or_missed.1 (c.take_part-old_word.result - 1) up in
    subst (λ (m : Me (Option Pointer) ClientView). IsCarried m) (sym t.0) c.requires.carried

pub returns-else-old_word-eq0-clause-err : goal.returns-else-old_word-eq0-clause-err
returns-else-old_word-eq0-clause-err c =
    let up : c.take_part-old_word.result ≡ suc (c.take_part-old_word.result - 1) = omega arith in
    let t = c.take_part-old_word.ensures.taken_or_missed.1 (c.take_part-old_word.result - 1) up in
    ((λ i. (t.0 i).0), t.1, t.2)
