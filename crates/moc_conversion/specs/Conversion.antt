-- Coverages of an input: converted, described, drawn, changed, checked.
use Rattle.std.specs.Prelude.{◌≡◌, ℕ, ◌<◌, ◌≤◌, ◌⊎◌, if◌then◌else◌, List, length, Option, None, Some}
use Rattle.std.specs.Prelude.{option_map}
use Rattle.std.specs.List.{after_first, before_first}
use Rattle.moc_devices.specs.Devices.{SourceState, Delivers, IsEnded}
use Rattle.moc_forms.specs.Changing.{changed_order, changed_set}
use Rattle.moc_forms.specs.Combining.{TextRepresents, are_blanks}
use Rattle.moc_forms.specs.declared.combining.ParsedCoverage.{ParsedCoverage}
use Rattle.moc_text.specs.Lines.{is_semicolon}
use Rattle.moc_forms.specs.Describing.{Describes}
use Rattle.moc_forms.specs.Drawing.{picture_of, picture_of_two}
use Rattle.moc_forms.specs.Diagnostics.{Diagnoses}
use Rattle.moc_forms.specs.Finding.{format_for}
use Rattle.moc_forms.specs.Formats.{IsFirstFormatError, format_text}
use Rattle.moc_forms.specs.declared.changing.Change.{Change}
use Rattle.moc_forms.specs.declared.finding.FormatChoice.{FormatChoice}
use Rattle.moc_forms.specs.declared.finding.FormatChoice.TheVariants.{Named}
use Rattle.moc_forms.specs.declared.format.Format.{Format}
use Rattle.moc_forms.specs.declared.legend.PictureNames.{PictureNames}
use Rattle.moc_forms.specs.declared.format.FormatError.{FormatError}
use Rattle.moc_forms.specs.declared.diagnostic.Diagnostic.{Diagnostic}
use Rattle.moc_conversion.specs.declared.error.InputError.{InputError}
use Rattle.moc_conversion.specs.declared.error.InputError.TheVariants as input

-- the maximal number of bytes of a text, 1 GiB
abbrev pub input_limit : ℕ
input_limit = 1073741824

-- the maximal number of bytes of a text that is converted, 16 MiB
abbrev pub conversion_limit : ℕ
conversion_limit = 16777216

-- the bytes that were read between two states of the input have a property
abbrev pub HasRead : (List ℕ → Type 0) → SourceState → SourceState → Type 0
HasRead is source source' = (given : List ℕ) × Delivers source source' given × is given

-- the whole input was read, it is no longer than a limit, and it has a property
abbrev pub IsAll : ℕ → (List ℕ → Type 0) → SourceState → SourceState → Type 0
IsAll limit is source source' = HasRead (λ text. IsEnded source' × (length text ≤ limit) × is text) source source'

-- the input, read in the chosen format, is this coverage, and no longer than a limit
abbrev pub InputRepresents : ℕ → FormatChoice → SourceState → SourceState → ParsedCoverage → Type 0
InputRepresents limit choice source source' parsed =
    IsAll limit (λ text. TextRepresents choice text parsed) source source'

-- the input is a valid coverage
abbrev pub IsValidInput : FormatChoice → SourceState → SourceState → Type 0
IsValidInput choice source source' =
    (parsed : ParsedCoverage) × InputRepresents input_limit choice source source' parsed

-- the text is made from the coverage of the input, which is no longer than a limit
abbrev pub MakesFromInput :
    ℕ → (ParsedCoverage → List ℕ → Type 0) → FormatChoice → SourceState → SourceState → List ℕ → Type 0
MakesFromInput limit makes choice source source' text =
    (parsed : ParsedCoverage) × InputRepresents limit choice source source' parsed × makes parsed text

-- the text is made from the coverage that bytes represent in the chosen format
abbrev pub MakesFromText : (ParsedCoverage → List ℕ → Type 0) → FormatChoice → List ℕ → List ℕ → Type 0
MakesFromText makes choice bytes text =
    (parsed : ParsedCoverage) × TextRepresents choice bytes parsed × makes parsed text

-- the text of a coverage in a format, with the MOC order that it states
abbrev pub IsConversion : Format → ParsedCoverage → List ℕ → Type 0
IsConversion to parsed text = text ≡ format_text to parsed.set parsed.moc_order

-- the text, in the same format, of a change of a coverage, with the MOC order that is stated for the result
abbrev pub IsChange : Change → ParsedCoverage → List ℕ → Type 0
IsChange change parsed text =
    text ≡ format_text parsed.format (changed_set change parsed.set) (changed_order change parsed.moc_order)

-- the text in one format of the coverage that the input is in the other, with the MOC order that it states
abbrev pub ConvertsAll : Format → Format → SourceState → SourceState → List ℕ → Type 0
ConvertsAll from to = MakesFromInput conversion_limit (IsConversion to) (Named from)

-- the text, in the same format, of a change of the coverage of the input
abbrev pub ChangesAll : Change → FormatChoice → SourceState → SourceState → List ℕ → Type 0
ChangesAll change = MakesFromInput input_limit (IsChange change)

-- the text has the statistics of the coverage of the input
abbrev pub DescribesAll : FormatChoice → SourceState → SourceState → List ℕ → Type 0
DescribesAll = MakesFromInput input_limit (λ parsed text. Describes parsed.set parsed.moc_order text)

-- the second text of a picture: the bytes after the first semicolon, unless they are blank
abbrev pub second_text : List ℕ → Option (List ℕ)
second_text bytes =
    let following = after_first is_semicolon bytes in
    if are_blanks following then None else Some following

-- the picture of the coverage of one text, with the first name, or of the coverages of two texts, with both names
abbrev pub IsPictureOf : FormatChoice → PictureNames → List ℕ → Option (List ℕ) → List ℕ → Type 0
IsPictureOf choice names first None picture =
    (parsed : ParsedCoverage) × TextRepresents choice first parsed
    × (picture ≡ picture_of parsed.set (option_map (λ name. name.now) names.first))
IsPictureOf choice names first (Some second) picture =
    (one other : ParsedCoverage) × TextRepresents choice first one × TextRepresents choice second other
    × (picture ≡ picture_of_two one.set other.set names)

-- the picture of the texts of the input: the bytes before its first semicolon, or all, and the second text
abbrev pub DrawsAll : FormatChoice → PictureNames → SourceState → SourceState → List ℕ → Type 0
DrawsAll choice names source source' picture =
    IsAll input_limit (λ text.
    IsPictureOf choice names (before_first is_semicolon text) (second_text text) picture) source source'

-- The error is the first one of a text, with its position and a quote. It also has the order of the cells there, what
-- else the text looks like, and the number of the text if texts are counted.
pub record ReportsError (format : Format) (text : List ℕ) (number : Option ℕ) (e : InputError) : Type 0 where
  pub error : FormatError
  pub is_first : IsFirstFormatError format text error
  pub diagnostic : Diagnostic
  pub diagnoses : Diagnoses format text error diagnostic
  pub reported : e ≡ input.Text number diagnostic

-- why bytes are not a coverage in the chosen format: an allocation failed, or they have this error at this position
abbrev pub FailsText : FormatChoice → List ℕ → InputError → Type 0
FailsText choice text e = (e ≡ input.Memory) ⊎ ReportsError (format_for choice text) text None e

-- the input was not read to its end: the reader failed, or the input is longer than a limit, or an allocation failed
abbrev pub FailsReading : ℕ → SourceState → SourceState → InputError → Type 0
FailsReading limit source source' e =
    (e ≡ input.Read) ⊎ ((e ≡ input.TooLong None) × HasRead (λ given. limit < length given) source source')
    ⊎ (e ≡ input.Memory)

-- why the input was not converted: it was not read to its end, or its text has this error; the error is reported alone
abbrev pub IsNotConverted : Format → SourceState → SourceState → InputError → Type 0
IsNotConverted format source source' e =
    FailsReading conversion_limit source source' e
    ⊎ IsAll conversion_limit (λ text.
    (first : FormatError) × IsFirstFormatError format text first × (e ≡ input.ConvertedText first)) source source'

-- why the input is not a coverage: it was not read to its end, or its text has this error at this position
abbrev pub FailsParsing : FormatChoice → SourceState → SourceState → InputError → Type 0
FailsParsing choice source source' e =
    FailsReading input_limit source source' e
    ⊎ IsAll input_limit (λ text. ReportsError (format_for choice text) text None e) source source'

-- the error is that of the first invalid text of a picture; texts are counted if there are two
abbrev pub ReportsFirstOfTexts : FormatChoice → List ℕ → Option (List ℕ) → InputError → Type 0
ReportsFirstOfTexts choice first None e = ReportsError (format_for choice first) first None e
ReportsFirstOfTexts choice first (Some second) e =
    ReportsError (format_for choice first) first (Some 1) e
    ⊎ (((parsed : ParsedCoverage) × TextRepresents choice first parsed)
    × ReportsError (format_for choice second) second (Some 2) e)

-- why the input was not drawn: it was not read to its end, or one of its texts has this error
abbrev pub IsNotDrawn : FormatChoice → SourceState → SourceState → InputError → Type 0
IsNotDrawn choice source source' e =
    FailsReading input_limit source source' e
    ⊎ IsAll input_limit (λ text.
    ReportsFirstOfTexts choice (before_first is_semicolon text) (second_text text) e) source source'
