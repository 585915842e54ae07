-- The numberings of the cells of an order (HEALPix's numbering schemes and NUNIQ), and the conversion of numbers
-- between them.
use Rattle.std.specs.Prelude.{ℕ, ◌==◌, List, [], ◌∷◌, ◌++◌, codes, decimal, Option, Result, Ok, Err, if◌then◌else◌}
use Rattle.std.specs.List.{find, range_with_len}
use Rattle.std.specs.Option.{ok_or}
use Rattle.moc_sphere.specs.CellNumber.{cell_count, cell_number, is_uniq, uniq_of}
use Rattle.moc_sphere.specs.Rings.{ring_number}
use Rattle.moc_text.specs.Names.{fault_report}
use Rattle.moc_lines.specs.Language.{is_blank_text, word_of, after_word, decimal_value, ◌>>=◌}
use Rattle.moc_lines.specs.Runs.{Rules}
use Rattle.moc_lines.specs.declared.numbering.NumberError.{NumberError}
use Rattle.moc_lines.specs.declared.numbering.NumberError.TheVariants.{WrongCount, BadNumber, CellTooLarge}
use Rattle.moc_lines.specs.declared.numbering.NumberError.TheVariants.{RingTooLarge, NotUniq, OtherOrder}
use Rattle.moc_lines.specs.declared.numbering.Numbering.{Numbering}
use Rattle.moc_lines.specs.declared.numbering.Numbering.TheVariants.{Nest, Ring, Uniq}
use Rattle.moc_lines.specs.declared.renumbering.Renumbering.{Renumbering}

-- the word for a numbering
abbrev pub numbering_name : Numbering → List ℕ
numbering_name Nest = codes "nest"
numbering_name Ring = codes "ring"
numbering_name Uniq = codes "uniq"

-- the number of the cell i of order k: i is its number in the nested scheme
abbrev pub cell_number_in : Numbering → ℕ → ℕ → ℕ
cell_number_in Nest k i = i
cell_number_in Ring k i = ring_number k i
cell_number_in Uniq k i = uniq_of (cell_number k i)

-- the cell of order k that has the number n; there is at most one
unfoldable pub cell_with_number : Numbering → ℕ → ℕ → Option ℕ
cell_with_number numbering k n = find (λ i. cell_number_in numbering k i == n) (range_with_len 0 (cell_count k))

-- the name of the error of a line of numbers, as an answer states it
abbrev pub name_of_number_error : NumberError → List ℕ
name_of_number_error WrongCount = codes "WrongCount"
name_of_number_error BadNumber = codes "BadNumber"
name_of_number_error CellTooLarge = codes "CellTooLarge"
name_of_number_error RingTooLarge = codes "RingTooLarge"
name_of_number_error NotUniq = codes "NotUniq"
name_of_number_error OtherOrder = codes "OtherOrder"

-- the error of a number that no cell of the order has
abbrev pub number_error : Numbering → ℕ → NumberError
number_error Nest n = CellTooLarge
number_error Ring n = RingTooLarge
number_error Uniq n = if is_uniq n then OtherOrder else NotUniq

-- the cell of order k that has the number n, or the error
abbrev pub cell_or_error : Numbering → ℕ → ℕ → Result ℕ NumberError
cell_or_error numbering k n = ok_or (cell_with_number numbering k n) (number_error numbering n)

-- the number on a line, which must have exactly one field
abbrev pub number_of_line : List ℕ → Result ℕ NumberError
number_of_line line =
    if is_blank_text (after_word line) then ok_or (decimal_value (word_of line)) BadNumber else Err WrongCount

-- the number, in the target numbering, of the cell that has this number in the source numbering, or the error
abbrev pub converted_number : Renumbering → ℕ → Result ℕ NumberError
converted_number r n = do
  i ← cell_or_error r.from r.order n
  Ok (cell_number_in r.to r.order i)

-- a number, or the error, as a line
abbrev pub number_line : Result ℕ NumberError → List ℕ
number_line (Ok n) = decimal n ++ 10 ∷ []
number_line (Err error) = fault_report (name_of_number_error error)

-- the rules for lines of numbers; blank lines have no answer, and the closing text is empty
abbrev pub renumber_rules : Rules Renumbering
renumber_rules = record {
  answer = λ r line. if is_blank_text line then [] else number_line (number_of_line line >>= converted_number r);
  after = λ r line. r;
  closing = λ _. [];
}
