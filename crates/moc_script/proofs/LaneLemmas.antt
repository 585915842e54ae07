-- The calls and the answer of a line of a lane, and lines one after another.
use Rattle.std.proofs.Common.{◌≡◌, inl, inr, ℕ, eq-eqb, Bool, false, if◌then◌else◌, List, [], ◌∷◌, ◌++◌, Result, Ok}
use Rattle.std.proofs.Common.{Err, refl, sym, ap, subst, ◌∙◌, append-nil}
use Rattle.std.specs.Result.{IfOk}
use Rattle.moc_lists.specs.RangeList.{NumberSet}
use Rattle.moc_parts.specs.declared.command.Command.{Command}
use Rattle.moc_text.specs.Names.{fault_report}
use Rattle.moc_lines.specs.Language.{is_blank_text, command_of, name_of_line_error, replies_text, batch_of}
use Rattle.moc_lines.specs.Language.{answer_to, after_batch, line_answer, after_line, IsAnswer}
use Rattle.moc_lines.specs.Runs.{Rules, script_rules}
use Rattle.moc_lines.specs.declared.error.LineError.{LineError}
use Rattle.moc_parts.specs.declared.reply.Reply.{Reply}
use Rattle.moc_shared.specs.declared.record.Call.{Call}
use Rattle.moc_shared.specs.History.{call_by, own_with}
use Rattle.moc_script.specs.Private.LaneWork.{ChangesNothing, IsRequestedBy, MadeByLine, Performs}
use Rattle.moc_script.specs.Private.LaneEnds.{HasMade, IsLineAnswer, MakesCall}
use Rattle.moc_shared.specs.declared.map.SharedMap.{SharedMap}
use Rattle.moc_shared.specs.declared.client.Client.{Client}
use Rattle.moc_shared.specs.Clients.{number_of, record_of, TakesEffectAfterWaiting}
use Rattle.moc_shared.specs.Batches.{BatchCall, BatchRecord, batch_answer as object}

module _ (denotes : List ℕ → Result (List Command) LineError) where
  -- the answer and the effect of a line that is not blank
  denotes_line : (a : NumberSet) (line : List ℕ) (r : Result (List Command) LineError) → is_blank_text line ≡ false → denotes line ≡ r
      → (line_answer denotes a line ≡ answer_to a r) × (after_line denotes a line ≡ after_batch a r)
  denotes_line a line r nonblank is = (
    ap (λ (b : Bool). if b then [] else answer_to a (denotes line)) nonblank ∙ ap (answer_to a) is,
    ap (λ (b : Bool). if b then a else after_batch a (denotes line)) nonblank ∙ ap (after_batch a) is,
  )

-- a valid line asks for its commands
pub requests_line : (line : List ℕ) (e : BatchCall) (text : List ℕ) → is_blank_text line ≡ false → batch_of command_of line ≡ Ok e.operation
    → text ≡ replies_text e.reply ++ 10 ∷ [] → IsRequestedBy object script_rules line e text
unfolding object
requests_line line e text nonblank is text_is s =
    let h = denotes_line (batch_of command_of) s line (Ok e.operation) nonblank is in
    (h.1, λ reply. h.0 ∙ ap (λ r. replies_text r ++ 10 ∷ []) (sym reply) ∙ sym text_is)

-- an invalid line changes nothing
quiet_line : (line : List ℕ) (error : LineError) → is_blank_text line ≡ false → batch_of command_of line ≡ Err error → ChangesNothing object script_rules line (fault_report (name_of_line_error error))
quiet_line line error nonblank is s = denotes_line (batch_of command_of) s line (Err error) nonblank is

-- a line without a call
pub no_call : (client : ℕ) (old new : BatchRecord) (line text : List ℕ) → new ≡ old → ChangesNothing object script_rules line text → IsLineAnswer client line old new text
no_call client old new line text same quiet = ([], inl (refl, quiet), λ made was. ap (λ (r : BatchRecord). r.own) same ∙ was ∙ ap (λ l. record { client = client; made = l } ∷ []) (sym (append-nil made)))

-- a call that ended after waits is one more of the own calls
pub own_view_after_waiting : (map : SharedMap) (e : BatchCall) (old new : BatchRecord) → TakesEffectAfterWaiting map e old new → new.own ≡ own_with e old.own
own_view_after_waiting map e old new (mid, waited, ends) = ends.own ∙ ap (λ (r : BatchRecord). own_with e r.own) waited.1

-- one more call of the record's own client
pub one_more_call : (client : ℕ) (e : BatchCall) (old new : BatchRecord) → e.client ≡ client → new.own ≡ own_with e old.own → (made : List BatchCall)
    → HasMade client made old → HasMade client (made ++ e ∷ []) new
one_more_call client e old new mine own made was =
    own ∙ ap (own_with e) was ∙ ap (λ (b : Bool). record { client = client; made = if b then made ++ e ∷ [] else made } ∷ []) (eq-eqb client e.client (sym mine))

-- a consequence for the value, if the result is Ok
pub if_ok : {T E : Type 0} {P Q : T → Type 0} (r : Result T E) → ((x : T) → P x → Q x) → IfOk r P → IfOk r Q
if_ok (Ok x) f p = f x p
if_ok (Err e) f p = tt

-- the client made one more call
pub makes_call : (map : SharedMap) (old new : Client) (commands : List Command) (replies : List Reply) → number_of new ≡ number_of old
    → TakesEffectAfterWaiting map (call_by (number_of old) commands replies) (record_of old) (record_of new) → MakesCall commands replies old new
makes_call map old new commands replies number effect =
    let e : BatchCall = call_by (number_of old) commands replies in
    record { number = number; made = λ made was. one_more_call (number_of old) e (record_of old) (record_of new) refl (own_view_after_waiting map e (record_of old) (record_of new) effect) made was }

module _ {S : Type 0} (s s' : S) (map_of : S → SharedMap) (client_of : S → Client) where
  -- commands are executed on the same map, by one call of the client
  abbrev CallsMap : S → List Command → List Reply → S → Type 0
  CallsMap t commands replies t' = (map_of t' ≡ map_of t) × MakesCall commands replies (client_of t) (client_of t')

  -- a line keeps the map
  pub line_keeps_map : (parsed : Result (List Command) LineError) (answer : List ℕ) → IsAnswer CallsMap s s' parsed answer → map_of s' ≡ map_of s
  line_keeps_map (Ok commands) answer (replies, executed, text) = executed.0
  line_keeps_map (Err error) answer (same, text) = ap map_of same

  -- a line keeps the client's number
  pub line_keeps_number : (parsed : Result (List Command) LineError) (answer : List ℕ) → IsAnswer CallsMap s s' parsed answer → number_of (client_of s') ≡ number_of (client_of s)
  line_keeps_number (Ok commands) answer (replies, executed, text) = executed.1.number
  line_keeps_number (Err error) answer (same, text) = ap (λ (t : S). number_of (client_of t)) same

  -- a line that is not blank made its calls
  pub line_made : (line answer : List ℕ) (parsed : Result (List Command) LineError) → is_blank_text line ≡ false → batch_of command_of line ≡ parsed → IsAnswer CallsMap s s' parsed answer
      → IsLineAnswer (number_of (client_of s)) line (record_of (client_of s)) (record_of (client_of s')) answer
  line_made line answer (Ok commands) nonblank is (replies, executed, text) =
      let e : BatchCall = call_by (number_of (client_of s)) commands replies in
      (e ∷ [], inr (e, refl, requests_line line e answer nonblank is text), executed.1.made)
  line_made line answer (Err error) nonblank is (same, text) =
      no_call (number_of (client_of s)) (record_of (client_of s)) (record_of (client_of s')) line answer (ap (λ (t : S). record_of (client_of t)) same)
      (subst (ChangesNothing object script_rules line) (sym text) (quiet_line line error nonblank is))

module _ {S O R : Type 0} (object : S → O → S × R) (rules : Rules S) where
  -- one more line
  pub Performs-push : (lines : List (List ℕ)) (line : List ℕ) (calls more : List (Call O R)) (texts : List (List ℕ)) (text : List ℕ)
      → Performs object rules lines calls texts → MadeByLine object rules line more text
      → Performs object rules (lines ++ line ∷ []) (calls ++ more) (texts ++ text ∷ [])
  Performs-push [] line calls more texts text (none, empty) (inl (no_call, quiet)) =
      (text, [], ap (λ l. l ++ text ∷ []) empty, inl (quiet, (ap (λ l. l ++ more) none ∙ no_call, refl)))
  Performs-push [] line calls more texts text (none, empty) (inr (e, one, requests)) =
      (text, [], ap (λ l. l ++ text ∷ []) empty, inr (e, [], ap (λ l. l ++ more) none ∙ one, requests, (refl, refl)))
  Performs-push (first ∷ lines) line calls more texts text (t, rest, is, inl (quiet, does)) last =
      (t, rest ++ text ∷ [], ap (λ l. l ++ text ∷ []) is, inl (quiet, Performs-push lines line calls more rest text does last))
  Performs-push (first ∷ lines) line calls more texts text (t, rest, is, inr (e, later, calls_are, requests, does)) last =
      (t, rest ++ text ∷ [], ap (λ l. l ++ text ∷ []) is, inr (e, later ++ more, ap (λ l. l ++ more) calls_are, requests, Performs-push lines line later more rest text does last))
