use Rattle.std.proofs.Common.{◌≡◌, ◌+◌, ◌<◌, length, subst, arith, rules}
use Rattle.std.specs.Slots.{slots_items}
use Rattle.moc_shared.specs.Seats.{table_index}
use Rattle.moc_shared.proofs.Reading.{AreRead, one_slot_more, no_slot_more}
use Rattle.moc_shared.proofs.map.contents.read_all.Goals as goal
use Rattle.moc_shared.proofs.map.contents.read_all.Goals.{in-Some, in-None}

pub loop-k-preserved : goal.loop-k-preserved
loop-k-preserved c =
    let items = slots_items c.args.closed.now.slots in
    let k = c.loop-k.k in
    let inv = c.loop-k.invariant in
    let word_count : length c.match-part_at.slots ≡ 12 = elim c.match-part_at.branch [
      | in-Some w ↦ search rules
      | in-None w ↦ search rules
    ] in
    let read : AreRead items c.match-part_at.slots (k + 1) = elim c.match-part_at.branch [
      | in-Some w ↦
          let at : table_index w.in-Some.part ≡ k = w.in-Some.ensures.some in
          let l : w.in-Some.part < 12 = omega (arith, at, c.loop-k-test.true) in
          one_slot_more items c.loop-k.slots c.match-part_at.slots w.in-Some.part k c.take-slot.result at inv.word_count l
          (search rules) (search rules) inv.read
      | in-None w ↦ subst (λ s. AreRead items s (k + 1)) (search rules)
          (no_slot_more items c.loop-k.slots k w.in-None.ensures.none inv.read)
    ] in
    record {
      word_count = word_count;
      long = search rules;
      marks = search rules;
      same = search rules;
      read = read;
      taken = search rules;
      left = search rules;
    }
