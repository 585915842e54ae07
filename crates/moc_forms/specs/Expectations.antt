-- What a text must have in place of an error.
use Rattle.std.specs.Prelude.{ℕ, ◌-◌, List, [], ◌++◌, take, codes, decimal, Option, None, Some}
use Rattle.std.specs.List.{after_last, before_last}
use Rattle.moc_sphere.specs.CellNumber.{cell_count}
use Rattle.moc_sphere.specs.Names.{is_slash}
use Rattle.moc_text.specs.JsonFormat.{order_of_name}
use Rattle.moc_text.specs.declared.ascii.error.TextError.TheVariants as text
use Rattle.moc_text.specs.declared.json_format.error.JsonError.TheVariants as json
use Rattle.moc_text.specs.declared.uniq.UniqError.TheVariants as uniq
use Rattle.moc_forms.specs.Quotes.{is_not_digit}
use Rattle.moc_forms.specs.declared.format.FormatError.{FormatError}
use Rattle.moc_forms.specs.declared.format.FormatError.TheVariants as error
use Rattle.moc_forms.specs.declared.place.Place.{Place}
use Rattle.moc_forms.specs.declared.place.Place.TheVariants.{Number}

-- the order in force at a byte of an ASCII text: that of the digits directly before the last slash before the byte
abbrev pub order_in_force : List ℕ → ℕ → Option ℕ
order_in_force bytes at = order_of_name (after_last is_not_digit (before_last is_slash (take at bytes)))

-- the order of the array, if the position is that of a number in an array
abbrev pub order_at_number : Option Place → Option ℕ
order_at_number (Some (Number order number)) = Some order
order_at_number place = None

-- the order of the cells at an error `CellTooLarge` of a text, given the position of the error
abbrev pub order_at_error : List ℕ → FormatError → Option Place → Option ℕ
order_at_error bytes (error.Ascii (text.CellTooLarge at)) place = order_in_force bytes at
order_at_error bytes (error.Json (json.CellTooLarge name item)) place = order_at_number place
order_at_error bytes e place = None

-- the line for the cells of an order
abbrev pub cells_line : ℕ → List ℕ
cells_line k =
    (codes "cells of order " ++ decimal k) ++ (codes " go up to " ++ decimal (cell_count k - 1)) ++ codes "\n"

-- the line for an error; none for an error `CellTooLarge`, because the line depends on the order
abbrev pub expected_in_place_of : FormatError → List ℕ
expected_in_place_of (error.Ascii (text.BadByte at)) = codes "words look like 3/, 10, 12-14 or 3/10\n"
expected_in_place_of (error.Ascii (text.NoOrder at)) = codes "an order comes first, as in 3/\n"
expected_in_place_of (error.Ascii (text.OrderTooLarge at)) = codes "orders go up to 29\n"
expected_in_place_of (error.Ascii (text.CellTooLarge at)) = []
expected_in_place_of (error.Ascii (text.Backwards at)) = codes "a range goes from its first cell to its last\n"
expected_in_place_of (error.Ascii (text.Unfinished at)) = codes "words look like 3/, 10, 12-14 or 3/10\n"
expected_in_place_of (error.Ascii text.Memory) = []
expected_in_place_of (error.Json json.NotJson) = codes "a text is one object, as in {\"3\":[10,12]}\n"
expected_in_place_of (error.Json json.NotObject) = codes "a text is one object, as in {\"3\":[10,12]}\n"
expected_in_place_of (error.Json (json.BadOrder name)) = codes "names are orders from 0 to 29\n"
expected_in_place_of (error.Json (json.NotArray name)) =
    codes "the value of an order is an array, as in {\"3\":[10,12]}\n"
expected_in_place_of (error.Json (json.NotWhole name item)) = codes "cells are whole numbers of at most 64 bits\n"
expected_in_place_of (error.Json (json.CellTooLarge name item)) = []
expected_in_place_of (error.Json json.Memory) = []
expected_in_place_of (error.Uniq (uniq.BadByte line)) = codes "each line is one number, of digits only\n"
expected_in_place_of (error.Uniq (uniq.NotUniq line)) = codes "NUNIQ numbers go from 4 to 4611686018427387903\n"
expected_in_place_of (error.Uniq uniq.Memory) = []

-- the line that states what a text must have in place of an error, given the order at the error
abbrev pub expected_text : FormatError → Option ℕ → List ℕ
expected_text e None = expected_in_place_of e
expected_text e (Some order) = cells_line order
