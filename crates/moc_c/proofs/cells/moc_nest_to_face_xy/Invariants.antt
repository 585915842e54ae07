use Rattle.std.proofs.Common.{◌≡◌, ℕ, ◌<◌, get_or}
use Rattle.moc_sphere.specs.CellNumber.{cell_count}
use Rattle.moc_sphere.specs.Faces.{face_of, x_of, y_of}
use Rattle.moc_c.proofs.cells.moc_nest_to_face_xy.Given as goal

abbrev pub invariant-loop-at : goal.invariant-loop-at
invariant-loop-at l =
    ((k : ℕ) → k < l.at → get_or l.cells k 0 < cell_count l.fn.order)
    × ((k : ℕ) → k < l.at → get_or l.faces k 0 ≡ face_of l.fn.order (get_or l.cells k 0))
    × ((k : ℕ) → k < l.at → get_or l.xs k 0 ≡ x_of l.fn.order (get_or l.cells k 0))
    × ((k : ℕ) → k < l.at → get_or l.ys k 0 ≡ y_of l.fn.order (get_or l.cells k 0))
