use Rattle.std.proofs.Common.{◌≡◌, ℕ, ◌<◌, ◌≤◌, ◌-◌, ◌^◌, length, get_or}
use Rattle.moc_c.proofs.cells.padded_row.Given as goal

abbrev pub invariant-loop-at : goal.invariant-loop-at
invariant-loop-at l =
    (length l.row ≡ 8)
    × ((j : ℕ) → j < l.at → get_or l.row j 0 ≡ get_or l.near j 0)
    × ((j : ℕ) → l.at ≤ j → j < 8 → get_or l.row j 0 ≡ 2 ^ 64 - 1)
