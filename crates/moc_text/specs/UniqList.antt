-- NUNIQ lists: texts with the NUNIQ number of a cell (MOC 2.0) on each line.
use Rattle.std.specs.Prelude.{◌≡◌, ℕ, not, if◌then◌else◌, List, [], ◌∷◌, ◌++◌, map, decimal, Option, Some, None}
use Rattle.std.specs.List.{flat_map, AllByRecursion}
use Rattle.std.specs.Str.{all_ascii_digits}
use Rattle.std.specs.Str.Parse.{digits_value}
use Rattle.moc_sphere.specs.CellNumber.{CellNumber, is_uniq, IsCell, uniq_of}
use Rattle.moc_lists.specs.RangeList.{NumberSet}
use Rattle.moc_ranges.specs.Cells.{cells_of, pixels_of}
use Rattle.moc_ranges.specs.Errors.{first_error_of}
use Rattle.moc_text.specs.Lines.{lines_of}
use Rattle.moc_text.specs.declared.uniq.UniqError.{UniqError}
use Rattle.moc_text.specs.declared.uniq.UniqError.TheVariants.{BadByte, NotUniq}

-- the error of the line with this number, if any; an empty line is skipped
abbrev pub uniq_line_error : ℕ → List ℕ → Option UniqError
uniq_line_error number [] = None
uniq_line_error number (b ∷ line) =
    if not (all_ascii_digits (b ∷ line)) then Some (BadByte number)
    else if is_uniq (digits_value 10 (b ∷ line)) then None
    else Some (NotUniq number)

-- the error of the first invalid line of a text
unfoldable pub uniq_error : List ℕ → Option UniqError
uniq_error text = first_error_of uniq_line_error 1 (lines_of text)

-- the numbers on the lines that are not empty
abbrev pub numbers_on : List (List ℕ) → List ℕ
numbers_on [] = []
numbers_on ([] ∷ lines) = numbers_on lines
numbers_on ((b ∷ line) ∷ lines) = digits_value 10 (b ∷ line) ∷ numbers_on lines

-- The text is valid, and its numbers are those of cells whose pixels are this set.
pub record RepresentsUniq (text : List ℕ) (a : NumberSet) : Type 0 where
  pub without_error : uniq_error text ≡ None
  pub cells : List CellNumber
  pub are_cells : AllByRecursion IsCell cells
  pub numbers : map uniq_of cells ≡ numbers_on (lines_of text)
  pub pixels_are : a ≡ pixels_of cells

-- the list of a set: the numbers of its cells in ascending order, each in decimal and followed by LF
unfoldable pub uniq_text : NumberSet → List ℕ
uniq_text a = flat_map (λ c. decimal (uniq_of c) ++ 10 ∷ []) (cells_of a)
