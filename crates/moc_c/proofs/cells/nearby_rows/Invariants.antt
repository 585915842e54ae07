use Rattle.std.proofs.Common.{ℕ, ◌<◌, [], get_or}
use Rattle.moc_sphere.specs.CellNumber.{cell_count}
use Rattle.moc_c.specs.Private.Rows.{IsRowOf}
use Rattle.moc_c.proofs.cells.nearby_rows.Given as goal

abbrev pub invariant-loop-at : goal.invariant-loop-at
invariant-loop-at l =
    ((k : ℕ) → k < l.at → get_or l.cells k 0 < cell_count l.fn.order)
    × ((k : ℕ) → k < l.at → IsRowOf l.near l.fn.order (get_or l.cells k 0) (get_or l.out k []))
