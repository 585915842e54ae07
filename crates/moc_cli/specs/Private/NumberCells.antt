-- The cells of numbers to convert.
use Rattle.std.specs.Prelude.{◌≡◌, ◌<◌}
use Rattle.moc_sphere.specs.CellNumber.{CellNumber, IsCell, cell_count, cell_number, uniq_of}
use Rattle.moc_sphere.specs.Rings.{ring_number}
use Rattle.moc_cli.specs.declared.action.NumberConversion.{NumberConversion}
use Rattle.moc_cli.specs.declared.action.NumberConversion.TheVariants.{Ring, Nest, Uniq, Cell, Near}

-- the cell has the number
abbrev pub IsCellOf : NumberConversion → CellNumber → Type 0
IsCellOf (Ring order index) cell = (index < cell_count order) × (cell ≡ cell_number order index)
IsCellOf (Nest order ring) cell = (cell.order ≡ order) × IsCell cell × (ring_number order cell.index ≡ ring)
IsCellOf (Uniq order index) cell = (index < cell_count order) × (cell ≡ cell_number order index)
IsCellOf (Cell uniq) cell = IsCell cell × (uniq_of cell ≡ uniq)
IsCellOf (Near order index) cell = (index < cell_count order) × (cell ≡ cell_number order index)
