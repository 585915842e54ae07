-- Texts that are separated by semicolons, combined from the left.
use Rattle.std.specs.Prelude.{◌≡◌, ℕ, zero, suc, Bool, if◌then◌else◌, List, [], ◌∷◌, codes, Option, None, Some}
use Rattle.std.specs.FinSet as set
use Rattle.std.specs.List.{list_all}
use Rattle.moc_lists.specs.RangeList.{NumberSet}
use Rattle.moc_ranges.specs.Operations.{symmetric}
use Rattle.moc_text.specs.Ascii.{deeper}
use Rattle.moc_text.specs.Lines.{pieces_of}
use Rattle.moc_forms.specs.Finding.{format_for, is_blank_byte}
use Rattle.moc_forms.specs.Formats.{FormatRepresents}
use Rattle.moc_forms.specs.declared.combining.Operation.{Operation}
use Rattle.moc_forms.specs.declared.combining.Operation.TheVariants.{Union, Intersection, Difference, Symmetric}
use Rattle.moc_forms.specs.declared.combining.ParsedCoverage.{ParsedCoverage}
use Rattle.moc_forms.specs.declared.finding.FormatChoice.{FormatChoice}

-- the word for an operation
abbrev pub operation_name : Operation → List ℕ
operation_name Union = codes "union"
operation_name Intersection = codes "intersection"
operation_name Difference = codes "difference"
operation_name Symmetric = codes "symmetric"

-- the result of an operation on two sets
abbrev pub set_of_two : Operation → NumberSet → NumberSet → NumberSet
set_of_two Union a b = set.union a b
set_of_two Intersection a b = set.intersection a b
set_of_two Difference a b = set.difference a b
set_of_two Symmetric a b = symmetric a b

-- the parsed text of a text that is read in the chosen format
abbrev pub TextRepresents : FormatChoice → List ℕ → ParsedCoverage → Type 0
TextRepresents choice text parsed =
    FormatRepresents parsed.format text parsed.set parsed.moc_order × (parsed.format ≡ format_for choice text)

-- the combination with one more text: this text alone if it is the first; else the operation on the sets, the deeper
-- MOC order and the first format
abbrev pub combine_next : Operation → Option ParsedCoverage → ParsedCoverage → ParsedCoverage
combine_next operation None parsed = parsed
combine_next operation (Some before) parsed = record {
  set = set_of_two operation before.set parsed.set;
  moc_order = deeper before.moc_order parsed.moc_order;
  format = before.format;
}

-- only spaces, tabs, CR and LF
abbrev pub are_blanks : List ℕ → Bool
are_blanks text = list_all is_blank_byte text

-- pieces without a last one that is blank
abbrev pub without_blank_end : List (List ℕ) → List (List ℕ)
without_blank_end [] = []
without_blank_end (text ∷ []) = if are_blanks text then [] else text ∷ []
without_blank_end (text ∷ next ∷ texts) = text ∷ without_blank_end (next ∷ texts)

-- the texts among pieces: the first one, and those after it without a last one that is blank
abbrev pub texts_among : List (List ℕ) → List (List ℕ)
texts_among [] = []
texts_among (first ∷ following) = first ∷ without_blank_end following

-- the texts of an input: its pieces at semicolons, where blanks after the last semicolon do not count as a text
abbrev pub texts_of : List ℕ → List (List ℕ)
texts_of bytes = texts_among (pieces_of bytes)

-- the combination before some texts, and the combination after them, from the left
abbrev pub CombinesTexts : Operation → FormatChoice → Option ParsedCoverage → List (List ℕ) → Option ParsedCoverage
    → Type 0
CombinesTexts operation choice before [] after = after ≡ before
CombinesTexts operation choice before (text ∷ texts) after =
    (parsed : ParsedCoverage) × TextRepresents choice text parsed
    × CombinesTexts operation choice (Some (combine_next operation before parsed)) texts after

-- a text is at a position among texts, and each text before it is valid
abbrev pub FollowsValid : FormatChoice → List (List ℕ) → ℕ → List ℕ → Type 0
FollowsValid choice [] count text = ⊥
FollowsValid choice (first ∷ texts) zero text = text ≡ first
FollowsValid choice (first ∷ texts) (suc count) text =
    ((parsed : ParsedCoverage) × TextRepresents choice first parsed) × FollowsValid choice texts count text

-- the combination of the texts of an input
abbrev pub Combines : Operation → FormatChoice → List ℕ → ParsedCoverage → Type 0
Combines operation choice input parsed = CombinesTexts operation choice None (texts_of input) (Some parsed)
