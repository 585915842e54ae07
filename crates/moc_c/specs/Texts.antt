-- Texts that are parsed and written.
use Rattle.std.specs.Prelude.{◌≡◌, ◌⊎◌, ℕ, List, length, nat_eq, nat_le, if◌then◌else◌, Option, None, Some, Result, Ok}
use Rattle.std.specs.Prelude.{Err}
use Rattle.moc_lists.specs.RangeList.{NumberSet}
use Rattle.moc_forms.specs.Describing.{Describes}
use Rattle.moc_forms.specs.Drawing.{picture_of}
use Rattle.moc_forms.specs.Formats.{FormatFails, FormatRepresents, format_text, IsWriteError}
use Rattle.moc_forms.specs.declared.format.Format.{Format}
use Rattle.moc_forms.specs.declared.format.FormatError.{FormatError}
use Rattle.moc_text.specs.declared.write_error.WriteError.{WriteError}
use Rattle.moc_text.specs.declared.write_error.WriteError.TheVariants as write
use Rattle.moc_c.specs.Answers.{both, set_at}
use Rattle.moc_c.specs.Contents.{Contents, with_set, with_text}
use Rattle.moc_c.specs.CallResults.{result_of_format, result_of, number_result, numbers_result, call_result}
use Rattle.moc_c.specs.declared.error.CallError.{CallError}
use Rattle.moc_c.specs.declared.error.CallError.TheVariants as error
use Rattle.moc_c.specs.declared.call_result.CallResult.{CallResult}

-- the number of an order, or 255 for none
abbrev pub order_number : Option ℕ → ℕ
order_number None = 255
order_number (Some k) = k

-- the order with this number; 255 is none
abbrev pub order_with_number : ℕ → Result (Option ℕ) CallError
order_with_number n = if nat_eq n 255 then Ok None else (if nat_le n 29 then Ok (Some n) else Err (error.NoSuchOrder n))

-- the set of a text is stored under the next id, which is returned with the MOC order of the text; or the result is the
-- text's error, or an allocation fails, and nothing changes
abbrev pub Reads : Format → List ℕ → Contents → Contents → CallResult → Type 0
Reads format text old new o =
    ((a : NumberSet) × (deepest : Option ℕ) × FormatRepresents format text a deepest × (new ≡ with_set old a)
    × (o ≡ numbers_result old.next (order_number deepest)))
    ⊎ ((e : FormatError) × FormatFails format text e × (new ≡ old) × (o ≡ result_of_format e))

-- a text is written, or writing fails, or its input is missing
abbrev pub IsNewText : {X : Type 0} → (X → List ℕ → Type 0) → (X → CallError → Type 0) → Result X CallError
    → Result (List ℕ) CallError → Type 0
IsNewText Is Refuses (Ok x) (Ok text) = Is x text
IsNewText Is Refuses (Ok x) (Err e) = Refuses x e
IsNewText Is Refuses (Err e) r = r ≡ Err e

-- a new text is kept, and the result is its length; or the result is the error, and nothing changes
abbrev pub KeepsText : Contents → Contents → Result (List ℕ) CallError → CallResult → Type 0
KeepsText old new (Ok text) o = (new ≡ with_text old text) × (o ≡ number_result (length text))
KeepsText old new (Err e) o = (new ≡ old) × (o ≡ result_of e)

-- the error of a text that was not written
abbrev pub fault_of_writing : WriteError → CallError
fault_of_writing write.TooCoarse = error.TooCoarse
fault_of_writing write.Memory = error.Memory

-- the text of a set in a format, with this MOC order
abbrev pub WritesText : Format → Contents → ℕ → ℕ → Result (List ℕ) CallError → Type 0
WritesText format d id stated r =
    IsNewText (λ x text. text ≡ format_text format x.0 x.1)
    (λ x e. (f : WriteError) × IsWriteError format x.0 x.1 f × (e ≡ fault_of_writing f))
    (both (set_at d id) (order_with_number stated)) r

-- the statistics of a set, with the MOC order of its text
abbrev pub DescribesText : Contents → ℕ → ℕ → Result (List ℕ) CallError → Type 0
DescribesText d id deepest r =
    IsNewText (λ x text. Describes x.0 x.1 text) (λ x e. e ≡ error.Memory)
    (both (set_at d id) (order_with_number deepest)) r

-- the picture of a set
abbrev pub DrawsText : Contents → ℕ → Result (List ℕ) CallError → Type 0
DrawsText d id r = IsNewText (λ x text. text ≡ picture_of x None) (λ x e. e ≡ error.Memory) (set_at d id) r

-- the text is written and kept, or the call fails
abbrev pub KeepsNewText : Contents → Contents → (Result (List ℕ) CallError → Type 0) → CallResult → Type 0
KeepsNewText old new Made o = (r : Result (List ℕ) CallError) × Made r × KeepsText old new r o
