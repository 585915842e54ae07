-- The progress of parsing a NUNIQ list.
use Rattle.std.specs.Prelude.{◌≡◌, ℕ, ◌+◌, ◌<◌, ◌≤◌, List, [], ◌∷◌, ◌++◌, length, map, Option, Some, None}
use Rattle.std.specs.Prelude.{if◌then◌else◌}
use Rattle.std.specs.List.{AllByRecursion}
use Rattle.std.specs.FinSet as set
use Rattle.moc_sphere.specs.CellNumber.{CellNumber, IsCell, uniq_of}
use Rattle.moc_lists.specs.RangeList.{NumberSet}
use Rattle.moc_ranges.specs.Cells.{pixels_of}
use Rattle.moc_text.specs.Lines.{is_line_feed, lines_of}
use Rattle.moc_ranges.specs.Errors.{first_error_of}
use Rattle.moc_text.specs.UniqList.{uniq_line_error, numbers_on}

-- the bytes after the end of the line, if the line ends here
abbrev pub after_line_feed : List ℕ → Option (List ℕ)
after_line_feed [] = Some []
after_line_feed (b ∷ bytes) = if is_line_feed b then Some bytes else None

-- Cells were added whose numbers are those on the lines before the rest.
pub record IsPart (bytes : List ℕ) (old : NumberSet) (rest : List ℕ) (new : NumberSet)
    : Type 0 where
  pub cells : List CellNumber
  pub are_cells : AllByRecursion IsCell cells
  pub numbers : numbers_on (lines_of bytes) ≡ map uniq_of cells ++ numbers_on (lines_of rest)
  pub set_is : new ≡ set.union old (pixels_of cells)

-- The lines before the rest are parsed. The first line has the number `first`, and the next one the number `line`.
pub record AreLinesRead (first : ℕ) (bytes : List ℕ) (old : NumberSet) (line : ℕ) (rest : List ℕ) (new : NumberSet)
    : Type 0 where
  pub part : IsPart bytes old rest new
  pub fault :
      first_error_of uniq_line_error first (lines_of bytes) ≡ first_error_of uniq_line_error line (lines_of rest)
  pub number : first + length (lines_of bytes) ≡ line + length (lines_of rest)
  pub within : line + length rest ≤ first + length bytes

-- The line at the front, which has this number, is parsed.
pub record IsLineRead (line : ℕ) (bytes : List ℕ) (old : NumberSet) (rest : List ℕ)
    (new : NumberSet) : Type 0 where
  pub shorter : length rest < length bytes
  pub read : AreLinesRead line bytes old (line + 1) rest new
