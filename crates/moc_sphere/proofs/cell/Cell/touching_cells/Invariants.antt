use Rattle.std.proofs.Common.{◌≡◌, map, take}
use Rattle.std.specs.Prelude.{All}
use Rattle.moc_sphere.specs.CellNumber.{cell_number}
use Rattle.moc_sphere.specs.Touching.{Touches}
use Rattle.moc_sphere.proofs.cell.Cell.touching_cells.Given as goal

abbrev pub invariant-loop-index : goal.invariant-loop-index
invariant-loop-index l =
    (l.cells.items ≡ map (cell_number l.fn.self.order) (take l.index-index l.index-items))
    × All (λ c. (c.order ≡ l.fn.self.order) × Touches l.fn.self.order l.fn.self.index c.index) l.cells.items
    × (l.cells.capacity ≡ 8)
