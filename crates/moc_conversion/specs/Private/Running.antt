-- The texts of an input, processed piece by piece.
use Rattle.std.specs.Prelude.{◌≡◌, ◌⊎◌, ℕ, ◌+◌, ◌<◌, ◌≤◌, ◌==◌, Bool, if◌then◌else◌, List, [], ◌++◌, length, Option}
use Rattle.std.specs.Prelude.{None, Some, slice_index_or}
use Rattle.moc_devices.specs.Devices.{SourceState, Delivers}
use Rattle.std.specs.Char.{is_ascii_digit}
use Rattle.std.specs.List.{AllByRecursion, list_any}
use Rattle.std.specs.Option.{option_or}
use Rattle.moc_forms.specs.Combining.{CombinesTexts, TextRepresents, combine_next, texts_of, without_blank_end}
use Rattle.moc_forms.specs.declared.combining.ParsedCoverage.{ParsedCoverage}
use Rattle.moc_text.specs.Lines.{pieces_of}
use Rattle.moc_forms.specs.declared.combining.Operation.{Operation}
use Rattle.moc_forms.specs.declared.finding.FormatChoice.{FormatChoice}
use Rattle.moc_conversion.specs.Combining.{ReportsFirstError, count_limit}
use Rattle.moc_conversion.specs.Conversion.{input_limit}
use Rattle.moc_conversion.specs.Notes.{first_without_cells}
use Rattle.moc_conversion.specs.Private.Pieces.{HasNoSemicolon}
use Rattle.moc_conversion.specs.declared.combination.Combination.{Combination}
use Rattle.moc_conversion.specs.declared.error.InputError.{InputError}
use Rattle.moc_conversion.specs.declared.error.InputError.TheVariants.{Memory, TooLong}
use Rattle.moc_conversion.specs.declared.notes.InputNote.TheVariants.{OneText}
use Rattle.moc_conversion.specs.declared.notes.Notes.{Notes}

-- the unfinished text has no semicolon, and is no longer than an input may be
pub record IsOpen (c : Combination) : Type 0 where
  pub no_semicolon : HasNoSemicolon c.text.items
  pub within : length c.text.items ≤ input_limit

-- a combination that has no text yet
pub record BeginsCombination (operation : Operation) (choice : FormatChoice) (c : Combination) : Type 0 where
  pub operates : c.operation ≡ operation
  pub chooses : c.choice ≡ choice
  pub number : c.number ≡ 1
  pub text : c.text.items ≡ []
  pub cells : c.text_without_cells ≡ None
  pub before : c.before ≡ None

-- the combination of the unfinished text with the texts before it
abbrev pub CombinesNext : Combination → Option ParsedCoverage → ParsedCoverage → Type 0
CombinesNext c before after =
    (parsed : ParsedCoverage) × TextRepresents c.choice c.text.items parsed
    × (after ≡ combine_next c.operation before parsed)

-- the texts of bytes after what was combined before, if there was anything
abbrev pub texts_after : Option ParsedCoverage → List ℕ → List (List ℕ)
texts_after None bytes = texts_of bytes
texts_after (Some before) bytes = without_blank_end (pieces_of bytes)

-- the combination of texts with what was combined before, if none is too long
pub record TextsCombine (operation : Operation) (choice : FormatChoice) (before : Option ParsedCoverage)
    (bytes : List ℕ)
    (after : Option ParsedCoverage) : Type 0 where
  pub represents : CombinesTexts operation choice before (texts_after before bytes) after
  pub within : AllByRecursion (λ text. length text ≤ input_limit) (texts_after before bytes)

-- the result of a combination with these bytes after its text
abbrev pub EndsCombination : Combination → List ℕ → Option ParsedCoverage → Type 0
EndsCombination c rest after = TextsCombine c.operation c.choice c.before (c.text.items ++ rest) after

-- an error is that of the first invalid text, with these bytes after the text of a combination
abbrev pub FailsCombination : Combination → List ℕ → InputError → Type 0
FailsCombination c rest error =
    ReportsFirstError c.number c.choice (texts_after c.before (c.text.items ++ rest)) error

-- an error is that of the first invalid text, with these bytes and any others after the text of a combination
abbrev pub FailsWithin : Combination → List ℕ → InputError → Type 0
FailsWithin c bytes error = (rest : List ℕ) → FailsCombination c (bytes ++ rest) error

-- with these bytes after the text of a combination, the piece with this number is longer than a text may be, or there
-- are enough bytes that the numbers of the pieces may not fit into 64 bits
abbrev pub IsLong : Combination → List ℕ → ℕ → Type 0
IsLong c bytes number =
    ((k : ℕ) × (number ≡ c.number + k)
    × (input_limit < length (slice_index_or (pieces_of (c.text.items ++ bytes)) k [])))
    ⊎ (count_limit < c.number + length bytes)

-- bytes were rejected: an allocation failed, or the text that is reported is too long, whatever follows the bytes
abbrev pub AreRejected : Combination → List ℕ → InputError → Type 0
AreRejected c bytes error =
    (error ≡ Memory)
    ⊎ ((number : ℕ) × (error ≡ TooLong (Some number)) × ((rest : List ℕ) → IsLong c (bytes ++ rest) number))

-- the notes on texts that are combined: whether there is only one, and the first without cells
abbrev pub notes_of : Bool → Option ℕ → Notes
notes_of is_one text_without_cells =
    record { input = if is_one then Some OneText else None; text_without_cells = text_without_cells }

-- the notes on texts: the number of the first, and the first text without cells before them
abbrev pub texts_notes : ℕ → Option ℕ → List (List ℕ) → Notes
texts_notes number before texts =
    notes_of (number + length texts == 2) (option_or before (first_without_cells number texts))

-- the notes on a combination with these bytes after its text
abbrev pub notes_after : Combination → List ℕ → Notes
notes_after c rest = texts_notes c.number c.text_without_cells (texts_after c.before (c.text.items ++ rest))

-- the number of the first text without cells, if the text of a combination ends here
abbrev pub finished_without_cells : Combination → Option ℕ
finished_without_cells c =
    option_or c.text_without_cells (if list_any is_ascii_digit c.text.items then None else Some c.number)

-- a combination that processes these bytes becomes another
pub record Processes (c : Combination) (bytes : List ℕ) (d : Combination) : Type 0 where
  pub operation : d.operation ≡ c.operation
  pub choice : d.choice ≡ c.choice
  pub ends : (rest : List ℕ) (after : Option ParsedCoverage) → EndsCombination d rest after
      → EndsCombination c (bytes ++ rest) after
  pub fails : (rest : List ℕ) (error : InputError) → FailsCombination d rest error
      → FailsCombination c (bytes ++ rest) error
  pub longer : (rest : List ℕ) (number : ℕ) → IsLong d rest number → IsLong c (bytes ++ rest) number
  pub notes : (rest : List ℕ) → notes_after d rest ≡ notes_after c (bytes ++ rest)

-- the bytes that were read between two states of the input turn one combination into another
abbrev pub RunsTo : SourceState → SourceState → Combination → Combination → Type 0
RunsTo source source' c d = (bytes : List ℕ) × (Delivers source source' bytes × Processes c bytes d)
