use Rattle.std.proofs.Common.{◌≡◌, ℕ, ◌<◌, ◌≤◌, ◌-◌, ◌^◌, length, get_or}
use Rattle.std.specs.Prelude.{Option, None, Some}
use Rattle.moc_sphere.specs.CellNumber.{CellNumber}
use Rattle.moc_c.proofs.cells.nearby_row.Given as goal

-- the index of a cell, or the largest number if there is none
abbrev pub index_or_largest : Option CellNumber → ℕ
index_or_largest None = 2 ^ 64 - 1
index_or_largest (Some c) = c.index

abbrev pub invariant-loop-at : goal.invariant-loop-at
invariant-loop-at l =
    (length l.row ≡ 8)
    × ((j : ℕ) → j < l.at → get_or l.row j 0 ≡ index_or_largest (get_or l.near-items j None))
    × ((j : ℕ) → l.at ≤ j → j < 8 → get_or l.row j 0 ≡ 2 ^ 64 - 1)
