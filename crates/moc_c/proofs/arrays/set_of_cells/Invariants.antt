use Rattle.std.proofs.Common.{◌≡◌, ℕ, ◌<◌, drop, get_or, map}
use Rattle.std.specs.FinSet as set
use Rattle.moc_sphere.specs.CellNumber.{cell_count, cell_number}
use Rattle.moc_ranges.specs.Cells.{pixels_of}
use Rattle.moc_c.proofs.arrays.set_of_cells.Given as goal

abbrev pub invariant-loop-at : goal.invariant-loop-at
invariant-loop-at l =
    (set.union l.builder (pixels_of (map (cell_number l.fn.order) (drop l.at l.cells))) ≡ pixels_of (map (cell_number l.fn.order) l.cells))
    × ((k : ℕ) → k < l.at → get_or l.cells k 0 < cell_count l.fn.order)
