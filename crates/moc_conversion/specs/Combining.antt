-- Texts of coverages that are separated by semicolons on the input, and combined.
use Rattle.std.specs.Prelude.{◌≡◌, ℕ, ◌+◌, ◌-◌, ◌^◌, ◌<◌, ◌≤◌, ◌⊎◌, List, [], ◌++◌, Option, Some, length}
use Rattle.std.specs.Prelude.{slice_index_or}
use Rattle.moc_devices.specs.Devices.{SourceState, IsEnded}
use Rattle.std.specs.List.{AllByRecursion}
use Rattle.moc_forms.specs.Combining.{Combines, FollowsValid, texts_of}
use Rattle.moc_forms.specs.declared.combining.ParsedCoverage.{ParsedCoverage}
use Rattle.moc_text.specs.Lines.{pieces_of}
use Rattle.moc_forms.specs.Finding.{format_for}
use Rattle.moc_forms.specs.Formats.{format_text}
use Rattle.moc_forms.specs.declared.combining.Operation.{Operation}
use Rattle.moc_forms.specs.declared.finding.FormatChoice.{FormatChoice}
use Rattle.moc_conversion.specs.Conversion.{HasRead, ReportsError, input_limit}
use Rattle.moc_conversion.specs.declared.error.InputError.{InputError}
use Rattle.moc_conversion.specs.declared.error.InputError.TheVariants as input

-- the whole input was read, none of its texts is too long, and this is their combination
abbrev pub IsInputCombination : Operation → FormatChoice → SourceState → SourceState → ParsedCoverage → Type 0
IsInputCombination operation choice source source' parsed =
    HasRead (λ given. IsEnded source' × AllByRecursion (λ text. length text ≤ input_limit) (texts_of given)
    × Combines operation choice given parsed) source source'

-- the text of the combination of all texts, in the format of the first, with the deepest of their MOC orders
abbrev pub CombinesAll : Operation → FormatChoice → SourceState → SourceState → List ℕ → Type 0
CombinesAll operation choice source source' text =
    (parsed : ParsedCoverage) × IsInputCombination operation choice source source' parsed
    × (text ≡ format_text parsed.format parsed.set parsed.moc_order)

-- the text of the combination of the texts of bytes, in the format of the first, with the deepest of their MOC orders
abbrev pub CombinesTextsOf : Operation → FormatChoice → List ℕ → List ℕ → Type 0
CombinesTextsOf operation choice bytes text =
    (parsed : ParsedCoverage) × Combines operation choice bytes parsed
    × (text ≡ format_text parsed.format parsed.set parsed.moc_order)

-- of texts that are counted from a number on, the error is that of the first invalid one, with its number
pub record ReportsFirstError (number : ℕ) (choice : FormatChoice) (texts : List (List ℕ)) (e : InputError)
    : Type 0 where
  pub before : ℕ
  pub text : List ℕ
  pub follows_valid : FollowsValid choice texts before text
  pub reports : ReportsError (format_for choice text) text (Some (number + before)) e

-- the error is that of the first invalid text, counted from 1, of the bytes that were read, whatever follows them; at
-- the end of the input nothing follows
abbrev pub ReportsInvalidText : FormatChoice → SourceState → SourceState → InputError → Type 0
ReportsInvalidText choice source source' e =
    HasRead (λ given. (rest : List ℕ) → (IsEnded source' → rest ≡ [])
    → ReportsFirstError 1 choice (texts_of (given ++ rest)) e) source source'

-- the piece with this number, counted from 1, between the semicolons of bytes is longer than a text may be
abbrev pub IsLongPiece : ℕ → List ℕ → Type 0
IsLongPiece number bytes = (0 < number) × (input_limit < length (slice_index_or (pieces_of bytes) (number - 1) []))

-- the largest number of 64 bits: no text has a larger number
abbrev pub count_limit : ℕ
count_limit = 2 ^ 64 - 1

-- Not all texts were read: the reader failed or an allocation failed; or the text whose number is reported is too long;
-- or `TooLong` is reported because at least `count_limit` bytes were delivered.
abbrev pub FailsReadingTexts : SourceState → SourceState → InputError → Type 0
FailsReadingTexts source source' e =
    (e ≡ input.Read) ⊎ (e ≡ input.Memory)
    ⊎ HasRead (λ given. ((number : ℕ) × IsLongPiece number given × (e ≡ input.TooLong (Some number)))
    ⊎ ((number : Option ℕ) × (e ≡ input.TooLong number) × (count_limit ≤ length given))) source source'

-- why texts were not combined: not all were read, or one is invalid
abbrev pub IsNotCombined : FormatChoice → SourceState → SourceState → InputError → Type 0
IsNotCombined choice source source' e =
    FailsReadingTexts source source' e ⊎ ReportsInvalidText choice source source' e

-- why the texts of bytes were not combined: an allocation failed; or the text whose number is reported is too long, or
-- there are at least `count_limit` bytes; or a text is invalid, and its error is reported
abbrev pub FailsCombining : FormatChoice → List ℕ → InputError → Type 0
FailsCombining choice bytes e =
    (e ≡ input.Memory)
    ⊎ ((number : ℕ) × (e ≡ input.TooLong (Some number)) × (IsLongPiece number bytes ⊎ (count_limit ≤ length bytes)))
    ⊎ ReportsFirstError 1 choice (texts_of bytes) e
