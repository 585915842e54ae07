use Rattle.std.proofs.Common.{rules, ◌≡◌, ◌∙◌, ℕ, None, sym, ap, arith}
use Rattle.std.specs.Arc.{arc_value}
use Rattle.std.specs.Option.{option_copied, unwrap_or}
use Rattle.std.proofs.lemmas.Grind.{common_steps}
use Rattle.moc_parts.specs.Lemmas.{all_parts}
use Rattle.moc_shared.specs.Private.Seats.{slot_at}
use Rattle.moc_shared.proofs.SlotIndices.{shared_next, shared_not}
use Rattle.moc_shared.proofs.calls.lists.share_all.Goals as goal
use Rattle.moc_shared.proofs.calls.lists.share_all.Goals.{in-Some-take+in_ok-new-in-Some-take, in-None+in_ok-new-in-None}

pub loop-part-preserved-in_default : goal.loop-part-preserved-in_default
loop-part-preserved-in_default c =
    let inv = c.loop-part.invariant in
    let n : ℕ = c.loop-part.part-index in
    let none : slot_at c.args.slots.now n ≡ None =
    ap (slot_at c.args.slots.now) (sym (all_parts n c.part-item.result c.loop-part-test.true))
    ∙ sym c.pointer_at.ensures ∙ ap option_copied c.in_default.is in
    record {
      replies = inv.replies;
      long = inv.long;
      shared = shared_not c.args.slots.now c.loop-part.edited c.args.changes.now.lists n inv.shared (inv.empty_slots n (omega arith)) none;
      left = λ k l. inv.left k (omega (arith, l));
      empty_slots = λ k l. inv.empty_slots k (omega (arith, l));
    }

pub loop-part-preserved : goal.loop-part-preserved
loop-part-preserved c =
    let inv = c.loop-part.invariant in
    let n : ℕ = c.loop-part.part-index in
    let is = all_parts n c.part-item.result c.loop-part-test.true in
    record {
      replies = search rules;
      long = search rules;
      shared = shared_next c.args.slots.now c.loop-part.edited c.put_at.new.slots c.args.changes.now.lists
          c.loop-part.changes.lists n _ c.in-Some.pointer.now c.match-take.new c.take.result inv.shared is
          (omega (arith, inv.long, is, c.loop-part-test.true)) c.put_at.ensures c.take.ensures.taken (inv.left n (omega arith))
          (sym c.pointer_at.ensures ∙ ap option_copied c.in-Some.is)
          (elim c.match-take.branch [
            | in-Some-take+in_ok-new-in-Some-take w ↦ ap arc_value w.new-is ∙ w.in_ok-new-in-Some-take.ensures
                ∙ ap (λ o. unwrap_or o (arc_value c.in-Some.pointer.now)) (sym w.in-Some-take.is)
            | in-None+in_ok-new-in-None w ↦ ap arc_value w.new-is ∙ w.in_ok-new-in-None.ensures
                ∙ ap (λ o. unwrap_or o (arc_value c.in-Some.pointer.now)) (sym w.in-None.is)
          ]);
      left = grind (arith, common_steps);
      empty_slots = grind (arith, common_steps);
    }
