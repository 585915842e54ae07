use Rattle.std.proofs.Common.{◌≡◌, ℕ, ap, ◌∙◌, arith}
use Rattle.moc_shared.specs.Seats.{table_index}
use Rattle.moc_shared.specs.Private.Seats.{content, part}
use Rattle.moc_shared.proofs.NewMaps.{one_slot, part_shared}
use Rattle.moc_shared.proofs.map.making.create_slots.Goals as goal
use Rattle.moc_shared.proofs.map.making.create_slots.Goals.{in-Some+in_ok-part-in-Some+in_ok-share-in-Some, in-None}

pub loop-k-preserved : goal.loop-k-preserved
loop-k-preserved c =
    let k = c.loop-k.k in
    let stands : (b : ℕ) → table_index b ≡ k → content c.match-part_at.slot ≡ part b c.args.start.now = elim c.match-part_at.branch [
      | in-Some+in_ok-part-in-Some+in_ok-share-in-Some w ↦ λ b at. ap content w.slot-is
          ∙ part_shared w.in_ok-share-in-Some.field-0 c.args.start.now w.get.result (w.in_ok-share-in-Some.ensures ∙ w.in_ok-part-in-Some.ensures.part)
          ∙ ap (λ (j : ℕ). part j c.args.start.now) (omega (arith, w.get.ensures.value, w.in-Some.ensures.some, at))
      | in-None w ↦ λ b at. absurd (w.in-None.ensures.none b at)
    ] in
    one_slot c.args.start.now c.loop-k.slots.items c.push.new.self.items k c.match-part_at.slot c.in_ok-push.ensures.items
    stands c.loop-k.invariant
