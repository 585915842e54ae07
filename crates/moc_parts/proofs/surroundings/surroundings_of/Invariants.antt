use Rattle.std.proofs.Common.{◌≡◌, ◌∷◌, map, take}
use Rattle.moc_sphere.specs.CellNumber.{cell_number}
use Rattle.moc_ranges.specs.Cells.{pixels_of}
use Rattle.moc_parts.proofs.surroundings.surroundings_of.Given as goal

abbrev pub invariant-loop-index : goal.invariant-loop-index
invariant-loop-index l = l.around ≡ pixels_of (map (cell_number l.fn.cell.order) (l.fn.cell.index ∷ take l.index-index l.index-items))
