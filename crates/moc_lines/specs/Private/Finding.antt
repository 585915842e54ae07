-- The search of cells by their numbers.
use Rattle.std.specs.Prelude.{◌≡◌, ℕ, Result, Ok, Err}
use Rattle.moc_sphere.specs.CellNumber.{CellNumber}
use Rattle.moc_lines.specs.Numberings.{cell_or_error}
use Rattle.moc_lines.specs.declared.numbering.NumberError.{NumberError}
use Rattle.moc_lines.specs.declared.numbering.Numbering.{Numbering}

-- the cell of order k that has the number n is returned, or the error of the number
abbrev pub FindsCell : Numbering → ℕ → ℕ → Result CellNumber NumberError → Type 0
FindsCell numbering k n (Ok cell) = (cell.order ≡ k) × (cell_or_error numbering k n ≡ Ok cell.index)
FindsCell numbering k n (Err error) = cell_or_error numbering k n ≡ Err error
