use Rattle.std.proofs.Common.{◌≡◌, ◌≤◌, ◌<◌, ℕ, length, false, true, get_or}
use Rattle.std.specs.Slots.{slots_items, slots_filled, slots_len}
use Rattle.moc_shared.specs.Seats.{table_index}
use Rattle.moc_shared.proofs.Reading.{AreRead}
use Rattle.moc_shared.proofs.map.contents.read_all.Given as goal

abbrev pub invariant-loop-k : goal.invariant-loop-k
invariant-loop-k l = record {
  word_count : length l.slots ≡ 12;
  long : slots_len l.closed.slots ≡ table_index 12;
  marks : length (slots_filled l.closed.slots) ≡ table_index 12;
  same : slots_items l.closed.slots ≡ slots_items l.initial.closed.slots;
  read : AreRead (slots_items l.initial.closed.slots) l.slots l.k;
  taken : (j : ℕ) → j < l.k → get_or (slots_filled l.closed.slots) j false ≡ false;
  left : (j : ℕ) → l.k ≤ j → j < table_index 12 → get_or (slots_filled l.closed.slots) j false ≡ true;
}
