-- The output of a text, and how an action ends with it.
use Rattle.std.proofs.Common.{◌≡◌, ◌||◌, inl, inr, ℕ, Bool, true, false, List, [], ◌∷◌, ◌++◌, Result, Ok, Err, refl, sym, subst, append-nil, MatchResult}
use Rattle.std.specs.Prelude.{IfOk, IfErr, IsErrAnd, OnOk, String, is_err, string_bytes}
use Rattle.std.specs.Io.KnownBytes.{Appends, Keeps}
use Rattle.std.specs.Prelude.{Option, None, Some}
use Rattle.std.proofs.Common.{◌∙◌}
use Rattle.std.specs.declared.alloc.Global.{Global}
use Rattle.moc_devices.specs.Devices.{SinkState, Accepts, AcceptsNone, Sends}
use Rattle.moc_devices.specs.Lemmas.{Accepts-kept, AcceptsNone-refl}
use Rattle.moc_conversion.specs.Notes.{no_notes}
use Rattle.moc_conversion.specs.declared.error.InputError.{InputError}
use Rattle.moc_conversion.specs.declared.notes.Notes.{Notes}
use Rattle.moc_cli.specs.Actions.{AreNone, PrintsText, IsInputError}
use Rattle.moc_cli.specs.Endings.{WritesUnlessFailed}
use Rattle.moc_cli.specs.Private.Writing.{IsSent}
use Rattle.moc_cli.specs.declared.status.ProgramError.{ProgramError}
use Rattle.moc_cli.specs.declared.status.ProgramError.TheVariants.{Input, Write}

no_error : (error : ProgramError) (u : Notes) (result : Result Notes ProgramError) → result ≡ Ok u → result ≡ Err error → ⊥
no_error error u result is same = cc

same_error : (f g : ProgramError) (result : Result Notes ProgramError) → result ≡ Err f → result ≡ Err g → f ≡ g
same_error f g result is same = cc

-- what was written remains written after the sink is flushed
sent_before_flush : (text : List ℕ) (sink m sink' : SinkState) → Accepts sink m text → AcceptsNone m sink' → Accepts sink sink' text
sent_before_flush text sink m sink' written unchanged = Accepts-kept sink m sink' text written unchanged

pub sent_on : (text : List ℕ) (notes : Notes) (sink m sink' : SinkState) (result : Result Notes ProgramError) → IfErr result (λ error. error ≡ Write) → IfOk result (λ n. n ≡ notes)
    → Accepts sink m text → AcceptsNone m sink' → IsSent text notes sink sink' result
sent_on text notes sink m sink' (Ok n) write same written unchanged = (sent_before_flush text sink m sink' written unchanged, same)
sent_on text notes sink m sink' (Err error) write same written unchanged = (write, text, [], sym (append-nil text), sent_before_flush text sink m sink' written unchanged)

pub sent_front : (text front rest : List ℕ) (notes : Notes) (sink sink' : SinkState) (result : Result Notes ProgramError) → result ≡ Err Write → text ≡ front ++ rest
    → Accepts sink sink' front → IsSent text notes sink sink' result
sent_front text front rest notes sink sink' (Ok u) failed parts written = absurd (no_error Write u (Ok u) refl failed)
sent_front text front rest notes sink sink' (Err error) failed parts written = (same_error error Write (Err error) refl failed, front, rest, parts, written)

-- an action that writes such a text
pub sent_writes : (is : List ℕ → Type 0) (are : Notes → Type 0) (fails : ProgramError → Type 0) (text : List ℕ) (notes : Notes) (sink sink' : SinkState) (result : Result Notes ProgramError)
    → is text → are notes → IsSent text notes sink sink' result → PrintsText is are fails sink sink' result
sent_writes is are fails text notes sink sink' (Ok n) holds noted sent = (text, holds, subst are (sym sent.1) noted, sent.0)
sent_writes is are fails text notes sink sink' (Err error) holds noted sent = inl (sent.0, sent.1, sent.2, subst is sent.3 holds, sent.4)

-- the same without notes
pub sent_without_notes : (is : List ℕ → Type 0) (fails : ProgramError → Type 0) (text : List ℕ) (notes : Notes) (sink sink' : SinkState) (result : Result Notes ProgramError)
    → is text → notes ≡ no_notes → IsSent text notes sink sink' result → PrintsText is AreNone fails sink sink' result
sent_without_notes is fails text notes sink sink' result holds none sent = sent_writes is AreNone fails text notes sink sink' result holds none sent

-- an action that writes the text of a call for the input, or fails with its error
pub result_writes : (is : List ℕ → Type 0) (fails_with : InputError → Type 0) (text : Result (String Global) InputError) (sink sink' : SinkState)
    (result : Result Notes ProgramError) → IfOk text (λ t. is (string_bytes t)) → IfErr text fails_with
    → MatchResult text (λ t. IsSent (string_bytes t) no_notes sink sink' result) (λ cause. (result ≡ Err (Input cause)) × AcceptsNone sink sink')
    → PrintsText is AreNone (IsInputError fails_with) sink sink' result
result_writes is fails_with (Ok t) sink sink' result text why sent = sent_writes is AreNone (IsInputError fails_with) (string_bytes t) no_notes sink sink' result text refl sent
result_writes is fails_with (Err cause) sink sink' (Ok u) text why (same, unchanged) = absurd (no_error (Input cause) u (Ok u) refl same)
result_writes is fails_with (Err cause) sink sink' (Err error) text why (same, unchanged) = inr ((cause, same_error error (Input cause) (Err error) refl same, why), unchanged)

-- an action that fails with an error of the input before it writes
pub failure_writes : (is : List ℕ → Type 0) (are : Notes → Type 0) (fails_with : InputError → Type 0) (cause : InputError) (sink : SinkState) (result : Result Notes ProgramError)
    → IsErrAnd result (λ error. error ≡ Input cause) → fails_with cause → PrintsText is are (IsInputError fails_with) sink sink result
failure_writes is are fails_with cause sink (Ok u) same why = absurd same
failure_writes is are fails_with cause sink (Err error) same why = inr ((cause, same, why), AcceptsNone-refl sink)

-- ---- what standard error accepted

none_left : {E : Type 0} (result : Result (Unit {0}) E) (old new : Bool) (rest : List ℕ) → OnOk result ([] ≡ rest) → (old ≡ false → new ≡ is_err result) → old || new ≡ false → rest ≡ []
none_left (Ok u) old new rest pending marks none = sym pending
none_left (Err e) true new rest pending marks none = absurd cc
none_left (Err e) false new rest pending marks none = absurd (let marked = marks refl in cc)

-- a text was written up to a rest; if the sink is not marked, nothing is left
pub unless_failed : {E : Type 0} (text : List ℕ) (sink sink' : SinkState) (old new : Bool) (result : Result (Unit {0}) E) → Sends text sink [] sink' result
    → (old ≡ false → new ≡ is_err result) → WritesUnlessFailed (old || new) text sink sink'
unless_failed text sink sink' old new result sends marks = record {
  front = sends.sent;
  rest = sends.rest;
  parts = sends.parts;
  accepted = sends.appended;
  whole = none_left result old new sends.rest sends.pending marks;
}

-- ---- no text on standard error

nothing_appended : (old new : Option (List ℕ)) → Appends old new [] → Keeps old new
nothing_appended None new appended = tt
nothing_appended (Some xs) None appended = absurd appended
nothing_appended (Some xs) (Some ys) appended = appended ∙ append-nil xs

empty_front : (front rest : List ℕ) → [] ≡ front ++ rest → front ≡ []
empty_front [] rest parts = refl
empty_front (b ∷ front) rest parts = absurd cc

-- an empty text changes nothing
pub empty_text_accepted : (failed : Bool) (sink sink' : SinkState) → WritesUnlessFailed failed [] sink sink' → AcceptsNone sink sink'
empty_text_accepted failed sink sink' writes =
    let accepted = subst (Accepts sink sink') (empty_front writes.front writes.rest writes.parts) writes.accepted in
    record { accepted = accepted.accepted ∙ append-nil sink.accepted; kept = nothing_appended sink.written sink'.written accepted.appended }
