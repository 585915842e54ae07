-- The output of number conversions.
use Rattle.std.specs.Prelude.{◌≡◌, ◌⊎◌, ℕ, ◌<◌, ◌≤◌, false, List, ◌++◌, codes, decimal}
use Rattle.std.specs.List.{join_by}
use Rattle.moc_sphere.specs.CellNumber.{CellNumber, IsCell, cell_count, cell_number, is_uniq, uniq_of}
use Rattle.moc_sphere.specs.Rings.{ring_number}
use Rattle.moc_sphere.specs.Touching.{touching_cells}
use Rattle.moc_sphere.specs.declared.cell.CellError.{CellError}
use Rattle.moc_sphere.specs.declared.cell.CellError.TheVariants.{CellTooLarge, NotUniq, RingTooLarge}
use Rattle.moc_cli.specs.declared.action.NumberConversion.{NumberConversion}
use Rattle.moc_cli.specs.declared.action.NumberConversion.TheVariants.{Ring, Nest, Uniq, Cell, Near}
use Rattle.moc_cli.specs.declared.status.ProgramError.{ProgramError}
use Rattle.moc_cli.specs.declared.status.ProgramError.TheVariants as program

-- numbers separated by blanks
abbrev pub number_list : List ℕ → List ℕ
number_list numbers = join_by decimal (codes " ") numbers

-- the output for a number: the ring, nested or NUNIQ number of its cell, that cell, or the cells that touch it
abbrev pub IsNumberLine : NumberConversion → List ℕ → Type 0
IsNumberLine (Ring order cell) line =
    (cell < cell_count order) × (line ≡ decimal (ring_number order cell) ++ codes "\n")
IsNumberLine (Nest order ring) line =
    (cell : ℕ) × (cell < cell_count order) × (ring_number order cell ≡ ring) × (line ≡ decimal cell ++ codes "\n")
IsNumberLine (Uniq order cell) line =
    (cell < cell_count order) × (line ≡ decimal (uniq_of (cell_number order cell)) ++ codes "\n")
IsNumberLine (Cell uniq) line =
    (cell : CellNumber) × IsCell cell × (uniq_of cell ≡ uniq)
    × (line ≡ decimal cell.order ++ (codes "/" ++ decimal cell.index) ++ codes "\n")
IsNumberLine (Near order cell) line =
    (cell < cell_count order) × (line ≡ number_list (touching_cells order cell) ++ codes "\n")

-- the error of a number that no cell has
abbrev pub IsNumberError : NumberConversion → CellError → Type 0
IsNumberError (Ring order cell) error = (error ≡ CellTooLarge) × (cell_count order ≤ cell)
IsNumberError (Nest order ring) error = (error ≡ RingTooLarge) × (cell_count order ≤ ring)
IsNumberError (Uniq order cell) error = (error ≡ CellTooLarge) × (cell_count order ≤ cell)
IsNumberError (Cell uniq) error = (error ≡ NotUniq) × (is_uniq uniq ≡ false)
IsNumberError (Near order cell) error = (error ≡ CellTooLarge) × (cell_count order ≤ cell)

-- the error of a number that is not converted: an allocation failed, or no cell has the number
abbrev pub IsConversionError : NumberConversion → ProgramError → Type 0
IsConversionError number error =
    (error ≡ program.Memory) ⊎ ((cause : CellError) × IsNumberError number cause × (error ≡ program.Number cause))
