-- Parsing the ASCII format as a function. Every text has exactly one reading, which is the set it represents or its
-- first error; this determines the function, independently of its definition (`Private/Scanned`).
use Rattle.std.specs.Prelude.{◌≡◌, ℕ, List, Option, Result, Ok, Err, MatchResult, ◌⊎◌}
use Rattle.moc_lists.specs.RangeList.{NumberSet}
use Rattle.moc_text.specs.declared.ascii.error.TextError.{TextError}
use Rattle.moc_text.specs.declared.ascii.error.TextError.TheVariants.{Memory}
use Rattle.moc_text.specs.Ascii.{Represents, IsFirstError}
pub use Rattle.moc_text.specs.Private.Scanned.{reading_of}

-- The result is the reading of the text, unless an allocation failed.
abbrev pub IsReadingOf : List ℕ → Result (NumberSet × Option ℕ) TextError → Type 0
IsReadingOf text (Ok read) = reading_of text ≡ Ok read
IsReadingOf text (Err e) = (e ≡ Memory) ⊎ (reading_of text ≡ Err e)

-- Every text has exactly one reading: the set and order that it represents, or its first error.
pub record ReadingsAreUnique : Type 0 where
  pub represented :
      (text : List ℕ)
      → MatchResult (reading_of text) (λ r. Represents text r.0 r.1) (λ fault. IsFirstError text fault)
  pub only_set :
      (text : List ℕ) (a : NumberSet) (k : Option ℕ) → Represents text a k → reading_of text ≡ Ok (a, k)
  pub only_fault :
      (text : List ℕ) (f : TextError) → IsFirstError text f → reading_of text ≡ Err f
