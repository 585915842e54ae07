-- The error of a text.
use Rattle.std.proofs.Common.{◌≡◌, ◌⊎◌, ℕ, List, None, Result, Ok, Err, inl, inr, refl, subst, sym}
use Rattle.std.specs.Prelude.{IfErr, IsErrAnd, IsTrue, ◌≤◌, length}
use Rattle.moc_devices.specs.Devices.{SourceState, Delivers, IsEnded}
use Rattle.moc_conversion.specs.Combining.{IsNotCombined}
use Rattle.moc_forms.specs.Finding.{format_for}
use Rattle.moc_forms.specs.Formats.{FormatFails, is_memory, out_of_memory_in}
use Rattle.moc_forms.specs.declared.finding.FormatChoice.{FormatChoice}
use Rattle.moc_forms.specs.declared.format.Format.{Format}
use Rattle.moc_forms.specs.declared.format.Format.TheVariants.{Ascii, Json, Uniq}
use Rattle.moc_forms.specs.declared.format.FormatError.{FormatError}
use Rattle.moc_forms.specs.Combining.{TextRepresents}
use Rattle.moc_forms.specs.declared.combining.ParsedCoverage.{ParsedCoverage}
use Rattle.moc_conversion.specs.Conversion.{IsAll, IsNotConverted, FailsParsing, FailsText, MakesFromInput, MakesFromText, ReportsError}
use Rattle.moc_conversion.specs.Conversion.{conversion_limit, input_limit}
use Rattle.moc_conversion.specs.declared.error.InputError.{InputError}
use Rattle.moc_conversion.specs.declared.error.InputError.TheVariants.{ConvertedText, Memory}

out_of_memory_is_memory : (format : Format) → IsTrue (is_memory (out_of_memory_in format))
out_of_memory_is_memory Ascii = refl
out_of_memory_is_memory Json = refl
out_of_memory_is_memory Uniq = refl

-- the bytes are the whole input, and no longer than a limit
abbrev pub IsWhole : ℕ → SourceState → SourceState → List ℕ → Type 0
IsWhole limit source source' given = Delivers source source' given × IsEnded source' × (length given ≤ limit)

-- then it has the property
pub all_of : (limit : ℕ) (is : List ℕ → Type 0) (source source' : SourceState) (given : List ℕ) → IsWhole limit source source' given → is given → IsAll limit is source source'
all_of limit is source source' given (delivers, end, within) holds = (given, delivers, (end, within, holds))

-- an error of the input, or of its text
pub of_input : (choice : FormatChoice) (source source' : SourceState) (given : List ℕ) (e : InputError) → IsWhole input_limit source source' given
    → (e ≡ Memory) ⊎ ReportsError (format_for choice given) given None e → FailsParsing choice source source' e
of_input choice source source' given e whole (inl memory) = inl (inr (inr memory))
of_input choice source source' given e whole (inr reports) = inr (all_of input_limit (λ text. ReportsError (format_for choice text) text None e) source source' given whole reports)

-- what is made from the text is made from the input
pub made_from_input : (limit : ℕ) (makes : ParsedCoverage → List ℕ → Type 0) (choice : FormatChoice) (source source' : SourceState) (given text : List ℕ)
    → IsWhole limit source source' given → MakesFromText makes choice given text → MakesFromInput limit makes choice source source' text
made_from_input limit makes choice source source' given text whole (parsed, represents, is) =
    (parsed, all_of limit (λ bytes. TextRepresents choice bytes parsed) source source' given whole represents, is)

-- the error of a text is the reason that its input is not converted
pub not_read : (format : Format) (source source' : SourceState) (given : List ℕ) (error : FormatError) (e : InputError) → IsWhole conversion_limit source source' given
    → (IsTrue (is_memory error) → e ≡ Memory) → (e ≡ Memory) ⊎ (e ≡ ConvertedText error) → FormatFails format given error → IsNotConverted format source source' e
not_read format source source' given error e whole out (inl memory) fails = inl (inr (inr memory))
not_read format source source' given error e whole out (inr alone) (inl memory) =
    inl (inr (inr (out (subst (λ x. IsTrue (is_memory x)) (sym memory) (out_of_memory_is_memory format)))))
not_read format source source' given error e whole out (inr alone) (inr first) = inr (given, whole.0, (whole.1, whole.2, (error, first, alone)))

-- an error that is passed on
pub error_passed_to_result : {T E : Type 0} (r : Result T E) (x : E) (Q : E → Type 0) → IsErrAnd r (λ y. y ≡ x) → Q x → IfErr r Q
error_passed_to_result (Ok v) x Q same holds = tt
error_passed_to_result (Err y) x Q same holds = subst Q (sym same) holds

-- an allocation failure for what is made from an input
pub no_memory : {T : Type 0} (r : Result T InputError) (choice : FormatChoice) (source source' : SourceState)
    → IsErrAnd r (λ e. e ≡ Memory) → IfErr r (FailsParsing choice source source')
no_memory (Ok v) choice source source' memory = tt
no_memory (Err e) choice source source' memory = inl (inr (inr memory))

-- an allocation failure for what is made from a text
pub no_memory_of_text : {T : Type 0} (r : Result T InputError) (choice : FormatChoice) (text : List ℕ)
    → IsErrAnd r (λ e. e ≡ Memory) → IfErr r (FailsText choice text)
no_memory_of_text (Ok v) choice text memory = tt
no_memory_of_text (Err e) choice text memory = inl memory

-- an allocation failure for what is converted from an input
pub no_memory_converting : {T : Type 0} (r : Result T InputError) (format : Format) (source source' : SourceState)
    → IsErrAnd r (λ e. e ≡ Memory) → IfErr r (IsNotConverted format source source')
no_memory_converting (Ok v) format source source' memory = tt
no_memory_converting (Err e) format source source' memory = inl (inr (inr memory))

-- an allocation failure for what is made from several texts
pub no_memory_together : {T : Type 0} (r : Result T InputError) (choice : FormatChoice) (source source' : SourceState)
    → IsErrAnd r (λ e. e ≡ Memory) → IfErr r (IsNotCombined choice source source')
no_memory_together (Ok v) choice source source' memory = tt
no_memory_together (Err e) choice source source' memory = inl (inr (inl memory))
