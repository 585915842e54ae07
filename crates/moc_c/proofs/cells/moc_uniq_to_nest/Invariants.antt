use Rattle.std.proofs.Common.{◌≡◌, ℕ, ◌<◌, ◌≤◌, ◌^◌, get_or}
use Rattle.moc_sphere.specs.CellNumber.{cell_number, IsCell, uniq_of}
use Rattle.moc_c.proofs.cells.moc_uniq_to_nest.Given as goal

abbrev pub invariant-loop-at : goal.invariant-loop-at
invariant-loop-at l =
    ((k : ℕ) → k < l.at → (4 ≤ get_or l.uniqs k 0) × (get_or l.uniqs k 0 < 2 ^ 62))
    × ((k : ℕ) → k < l.at → IsCell (cell_number (get_or l.orders k 0) (get_or l.cells k 0))
    × (uniq_of (cell_number (get_or l.orders k 0) (get_or l.cells k 0)) ≡ get_or l.uniqs k 0))
