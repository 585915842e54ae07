-- The text formats of a coverage.
use Rattle.std.specs.Prelude.{◌≡◌, ℕ, Bool, true, false, List, [], ◌∷◌, ◌++◌, codes, ◌⊎◌, Option, None, Some}
use Rattle.moc_lists.specs.RangeList.{NumberSet}
use Rattle.moc_text.specs.Ascii.{Represents, IsFirstError}
use Rattle.moc_text.specs.AsciiText.{ascii_text, IsTooCoarse}
use Rattle.moc_text.specs.JsonFormat.{RepresentsJson, IsJsonError}
use Rattle.moc_text.specs.JsonText.{json_text}
use Rattle.moc_text.specs.Names.{name_of_json, name_of_text, name_of_uniq}
use Rattle.moc_text.specs.Places.{error_byte, error_line}
use Rattle.moc_text.specs.UniqList.{RepresentsUniq, uniq_error, uniq_text}
use Rattle.moc_text.specs.declared.ascii.error.TextError.{TextError}
use Rattle.moc_text.specs.declared.ascii.error.TextError.TheVariants as text
use Rattle.moc_text.specs.declared.json_format.error.JsonError.{JsonError}
use Rattle.moc_text.specs.declared.json_format.error.JsonError.TheVariants as json
use Rattle.moc_text.specs.declared.uniq.UniqError.{UniqError}
use Rattle.moc_text.specs.declared.uniq.UniqError.TheVariants as uniq
use Rattle.moc_text.specs.declared.write_error.WriteError.{WriteError}
use Rattle.moc_text.specs.declared.write_error.WriteError.TheVariants as write
use Rattle.moc_forms.specs.declared.format.Format.{Format}
use Rattle.moc_forms.specs.declared.format.Format.TheVariants.{Ascii, Json, Uniq}
use Rattle.moc_forms.specs.declared.format.FormatError.{FormatError}
use Rattle.moc_forms.specs.declared.format.FormatError.TheVariants as error

-- the word for a format
abbrev pub format_name : Format → List ℕ
format_name Ascii = codes "ascii"
format_name Json = codes "json"
format_name Uniq = codes "uniq"

-- whether two formats are the same
abbrev pub same_format : Format → Format → Bool
same_format Ascii Ascii = true
same_format Json Json = true
same_format Uniq Uniq = true
same_format a b = false

-- the line that states that a text looks like a format
abbrev pub format_hint : Format → List ℕ
format_hint Ascii = codes "this looks like ASCII\n"
format_hint Json = codes "this looks like JSON\n"
format_hint Uniq = codes "this looks like a NUNIQ list\n"

-- the set and the MOC order of a text in a format; a NUNIQ list states no MOC order
abbrev pub FormatRepresents : Format → List ℕ → NumberSet → Option ℕ → Type 0
FormatRepresents Ascii text a moc_order = Represents text a moc_order
FormatRepresents Json text a moc_order = RepresentsJson text a moc_order
FormatRepresents Uniq text a moc_order = RepresentsUniq text a × (moc_order ≡ None)

-- the first error of a text in a format
abbrev pub IsFirstFormatError : Format → List ℕ → FormatError → Type 0
IsFirstFormatError Ascii text e = (first : TextError) × (e ≡ error.Ascii first) × IsFirstError text first
IsFirstFormatError Json text e = (first : JsonError) × (e ≡ error.Json first) × IsJsonError text first
IsFirstFormatError Uniq text e = (first : UniqError) × (e ≡ error.Uniq first) × (uniq_error text ≡ Some first)

-- the name of the error, as it is printed
abbrev pub name_of_format_error : FormatError → List ℕ
name_of_format_error (error.Ascii e) = name_of_text e
name_of_format_error (error.Json e) = name_of_json e
name_of_format_error (error.Uniq e) = name_of_uniq e

-- the offset of the byte at an error, in a format whose errors are at bytes
abbrev pub byte_of_error : FormatError → Option ℕ
byte_of_error (error.Ascii e) = error_byte e
byte_of_error e = None

-- the line of an error, in a format whose errors are at lines
abbrev pub line_of_error : FormatError → Option ℕ
line_of_error (error.Uniq e) = error_line e
line_of_error e = None

-- the error of a JSON text
abbrev pub json_error : FormatError → Option JsonError
json_error (error.Json e) = Some e
json_error e = None

-- whether the error is an allocation failure
abbrev pub is_memory : FormatError → Bool
is_memory (error.Ascii text.Memory) = true
is_memory (error.Json json.Memory) = true
is_memory (error.Uniq uniq.Memory) = true
is_memory e = false

-- an allocation failure of the parser of a format
abbrev pub out_of_memory_in : Format → FormatError
out_of_memory_in Ascii = error.Ascii text.Memory
out_of_memory_in Json = error.Json json.Memory
out_of_memory_in Uniq = error.Uniq uniq.Memory

-- the error is an allocation failure, or the first error of the text
abbrev pub FormatFails : Format → List ℕ → FormatError → Type 0
FormatFails format text e = (e ≡ out_of_memory_in format) ⊎ IsFirstFormatError format text e

-- the text of a set in a format, with its last line feed
abbrev pub format_text : Format → NumberSet → Option ℕ → List ℕ
format_text Ascii a stated = ascii_text a stated ++ 10 ∷ []
format_text Json a stated = json_text a stated ++ 10 ∷ []
format_text Uniq a stated = uniq_text a

-- the error is an allocation failure, or a cell of the set is deeper than the stated order
abbrev pub IsWriteError : Format → NumberSet → Option ℕ → WriteError → Type 0
IsWriteError Ascii a stated e = (e ≡ write.Memory) ⊎ ((e ≡ write.TooCoarse) × IsTooCoarse a stated)
IsWriteError Json a stated e = (e ≡ write.Memory) ⊎ ((e ≡ write.TooCoarse) × IsTooCoarse a stated)
IsWriteError Uniq a stated e = e ≡ write.Memory
