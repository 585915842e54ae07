use Rattle.std.proofs.Common.{◌≡◌, ◌<◌, ℕ}
use Rattle.std.specs.Prelude.{slice_index}
use Rattle.std.specs.Slots.{slots_items}
use Rattle.moc_shared.specs.Seats.{table_index}
use Rattle.moc_shared.proofs.map.contents.first_held.Given as goal

abbrev pub invariant-loop-part : goal.invariant-loop-part
invariant-loop-part l = (k : ℕ) → k < l.part-index → slice_index (slots_items l.closed.words) (table_index k) ≡ 0
