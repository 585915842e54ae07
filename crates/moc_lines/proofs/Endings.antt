-- The output of a run when it ends.
use Rattle.std.proofs.Common.{◌≡◌, ℕ, true, false, ◌&&◌, cond, leb, le-leb, List, [], ◌∷◌, ◌++◌, length}
use Rattle.std.proofs.Common.{Result, Ok, Err, refl, sym, ap, ◌∙◌, append_assoc, append-nil}
use Rattle.std.proofs.Common.{subst}
use Rattle.std.specs.List.{list_all, take_while}
use Rattle.std.proofs.lemmas.List.Sums.{take_while-cons}
use Rattle.moc_text.specs.Lines.{lines_of}
use Rattle.moc_lines.specs.Runs.{Rules, is_short, answers_to, after_lines, closing_after, script_text, AreShort}
use Rattle.moc_lines.specs.Runs.{AnswersAll, IsOutput, Runs}
use Rattle.moc_devices.specs.Devices.{SourceState, IsEnded, SinkState, Accepts, AcceptsNone, Sends}
use Rattle.moc_devices.specs.Lemmas.{Accepts-kept, Accepts-trans}
use Rattle.moc_lines.specs.Private.Ended.{Ended, text_at}
use Rattle.moc_lines.specs.declared.run_error.RunError.{RunError}
use Rattle.moc_lines.specs.declared.run_error.RunError.TheVariants.{Read, Write, LineTooLong, Memory, Spawn}
use Rattle.moc_lines.proofs.Outcomes.{at_ok}
use Rattle.std.specs.Result.{is_err, OnOk}

within-append : (limit : ℕ) (lines rest : List (List ℕ)) → AreShort limit lines
    → take_while (λ line. leb (length line) limit) (lines ++ rest) ≡ lines ++ take_while (λ line. leb (length line) limit) rest
within-append limit [] rest each = refl
within-append limit (line ∷ lines) rest each =
    let passes : leb (length line) limit ≡ true = le-leb (length line) limit each.0 in
    take_while-cons (λ l. leb (length l) limit) line (lines ++ rest) ∙ ap (λ b. cond b (line ∷ take_while (λ l. leb (length l) limit) (lines ++ rest)) []) passes
    ∙ ap (λ l. line ∷ l) (within-append limit lines rest each.1)

take_while_all : (limit : ℕ) (lines : List (List ℕ)) → AreShort limit lines → take_while (is_short limit) lines ≡ lines
take_while_all limit lines each =
    ap (take_while (is_short limit)) (sym (append-nil lines)) ∙ within-append limit lines [] each ∙ append-nil lines

all_within : (limit : ℕ) (lines : List (List ℕ)) → AreShort limit lines → list_all (is_short limit) lines ≡ true
all_within limit [] each = refl
all_within limit (line ∷ lines) each =
    ap (λ b. b && list_all (is_short limit) lines) (le-leb (length line) limit each.0) ∙ all_within limit lines each.1

module _ {S : Type 0} (limit : ℕ) (rules : Rules S) where
  answers_to-append : (s : S) (lines more : List (List ℕ)) → answers_to rules s (lines ++ more) ≡ answers_to rules s lines ++ answers_to rules (after_lines rules s lines) more
  answers_to-append s [] more = refl
  answers_to-append s (line ∷ lines) more = ap (λ l. rules.answer s line ++ l) (answers_to-append (rules.after s line) lines more) ∙ sym (append_assoc (rules.answer s line) _ _)

  -- the closing text after all lines if no line is over the limit
  abbrev closing_text : S → List (List ℕ) → List ℕ
  closing_text s lines = cond (list_all (is_short limit) lines) (closing_after rules s lines) []

  -- the answers so far are a prefix of the text
  beginning : (s : S) (input : List ℕ) (lines rest : List (List ℕ)) → AreShort limit lines → lines_of input ≡ lines ++ rest
      → (tail : List ℕ) × (script_text rules limit s input ≡ answers_to rules s lines ++ tail)
  beginning s input lines rest within is =
      let closing = closing_text s (lines_of input) in
      let later = answers_to rules (after_lines rules s lines) (take_while (is_short limit) rest) in (
        later ++ closing,
        ap (λ l. answers_to rules s (take_while (is_short limit) l) ++ closing) is
            ∙ ap (λ l. answers_to rules s l ++ closing) (within-append limit lines rest within)
            ∙ ap (λ l. l ++ closing) (answers_to-append s lines (take_while (is_short limit) rest))
            ∙ append_assoc (answers_to rules s lines) later closing,
      )

  -- if no line is over the limit, the text is the answers to all lines and the closing text
  whole_is : (s : S) (input : List ℕ) (lines : List (List ℕ)) → AreShort limit lines → lines_of input ≡ lines
      → script_text rules limit s input ≡ answers_to rules s lines ++ closing_after rules s lines
  whole_is s input lines within is =
      ap (λ l. answers_to rules s (take_while (is_short limit) l) ++ closing_text s l) is
      ∙ ap (λ l. answers_to rules s l ++ closing_text s lines) (take_while_all limit lines within)
      ∙ ap (λ b. answers_to rules s lines ++ cond b (closing_after rules s lines) []) (all_within limit lines within)

  -- the output is a prefix of the text, whatever follows the bytes that were given
  output_begins : (s : S) (a b : SourceState) (w v : SinkState) (pending : List ℕ) (r : Result (Unit {0}) RunError) → (e : Ended limit rules s a b w v pending r)
      → (more : List ℕ) → (IsEnded b → more ≡ []) → (tail : List ℕ) × (script_text rules limit s (e.given ++ more) ≡ text_at rules s e.lines r ++ tail)
  output_begins s a b w v pending (Ok u) e more last = (
    [],
    ap (λ l. script_text rules limit s (e.given ++ l)) (last e.ends.0) ∙ ap (script_text rules limit s) (append-nil e.given)
        ∙ whole_is s e.given e.lines e.within (sym e.ends.1) ∙ sym (append-nil (text_at rules s e.lines (Ok u))),
  )
  output_begins s a b w v pending (Err error) e more last =
      let front = e.front more last in beginning s (e.given ++ more) e.lines front.0 e.within front.1

  -- the writer failed before the pending answers were written
  Runs-unsent : (s : S) (a b : SourceState) (w v : SinkState) (pending : List ℕ) → Ended limit rules s a b w v pending (Err Write) → Runs limit rules s a b w v (Err Write)
  Runs-unsent s a b w v pending e = record {
    input = e.given;
    output = e.sent;
    delivered = e.consumed;
    accepted = e.appended;
    is_prefix = λ more last.
        let text = output_begins s a b w v pending (Err Write) e more last in
        (e.text.0 ++ text.0, text.1 ∙ ap (λ l. l ++ text.0) e.text.1 ∙ append_assoc e.sent e.text.0 text.0);
    is_output = tt;
  }

  pub Runs-ended : (s : S) (a b : SourceState) (w v : SinkState) (pending : List ℕ) (r : Result (Unit {0}) RunError) → r ≡ Err Write → Ended limit rules s a b w v pending r → Runs limit rules s a b w v r
  Runs-ended s a b w v pending r is e =
      subst (λ (q : Result (Unit {0}) RunError). Runs limit rules s a b w v q) (sym is)
      (Runs-unsent s a b w v pending (subst (λ (q : Result (Unit {0}) RunError). Ended limit rules s a b w v pending q) is e))

  -- what is written and pending is the output if the writer has not failed
  output_is : (s : S) (a b : SourceState) (w v : SinkState) (pending : List ℕ) (r : Result (Unit {0}) RunError) → (r ≡ Err Write → ⊥) → (e : Ended limit rules s a b w v pending r)
      → text_at rules s e.lines r ≡ e.sent ++ pending
  output_is s a b w v pending (Ok u) other e = e.text
  output_is s a b w v pending (Err Write) other e = absurd (other refl)
  output_is s a b w v pending (Err Read) other e = e.text
  output_is s a b w v pending (Err (LineTooLong line)) other e = e.text
  output_is s a b w v pending (Err (Memory line)) other e = e.text
  output_is s a b w v pending (Err Spawn) other e = absurd e.ends

  -- the writer failed while the pending answers were written or flushed
  pub Runs-failed : {E : Type 0} (s : S) (a b : SourceState) (w v u x : SinkState) (pending pending' : List ℕ) (r : Result (Unit {0}) RunError) (sends : Result (Unit {0}) E) → (r ≡ Err Write → ⊥)
      → Ended limit rules s a b w v pending r → Sends pending v pending' u sends → AcceptsNone u x → Runs limit rules s a b w x (Err Write)
  Runs-failed s a b w v u x pending pending' r sends other e sent kept =
      let answers = output_is s a b w v pending r other e in record {
        input = e.given;
        output = e.sent ++ sent.sent;
        delivered = e.consumed;
        accepted = Accepts-kept w u x (e.sent ++ sent.sent) (Accepts-trans w v u e.sent sent.sent e.appended sent.appended) kept;
        is_prefix = λ more last.
            let text = output_begins s a b w v pending r e more last in (
              sent.rest ++ text.0,
              text.1 ∙ ap (λ l. l ++ text.0) (answers ∙ ap (λ l. e.sent ++ l) sent.parts ∙ sym (append_assoc e.sent sent.sent sent.rest)) ∙ append_assoc (e.sent ++ sent.sent) sent.rest text.0,
            );
        is_output = tt;
      }

  -- at the end what is written is the output
  written : (s : S) (a b : SourceState) (w v : SinkState) (pending : List ℕ) (r : Result (Unit {0}) RunError) → (r ≡ Err Write → ⊥)
      → (e : Ended limit rules s a b w v pending r) → IsOutput limit rules s e.given b r (text_at rules s e.lines r)
  written s a b w v pending (Ok u) other e = (
    e.ends.0,
    subst (AreShort limit) e.ends.1 e.within,
    sym (whole_is s e.given e.lines e.within (sym e.ends.1)),
  )
  written s a b w v pending (Err Write) other e = absurd (other refl)
  written s a b w v pending (Err Read) other e = (subst (AreShort limit) e.ends e.within, ap (answers_to rules s) e.ends)
  written s a b w v pending (Err (LineTooLong line)) other e = (e.ends.0, subst (AreShort limit) e.ends.1 e.within, ap (answers_to rules s) e.ends.1)
  written s a b w v pending (Err (Memory line)) other e = (e.ends.0, subst (AreShort limit) e.ends.1 e.within, ap (answers_to rules s) e.ends.1)
  written s a b w v pending (Err Spawn) other e = absurd e.ends

  -- all is written
  pub Runs-sent : {E : Type 0} (s : S) (a b : SourceState) (w v u x : SinkState) (pending pending' : List ℕ) (r : Result (Unit {0}) RunError) (sends : Result (Unit {0}) E) → (r ≡ Err Write → ⊥)
      → Ended limit rules s a b w v pending r → Sends pending v pending' u sends → is_err sends ≡ false → pending' ≡ [] → AcceptsNone u x → Runs limit rules s a b w x r
  Runs-sent s a b w v u x pending pending' r sends other e sent ok empty kept =
      let answers = output_is s a b w v pending r other e in
      let rest = sym (at_ok sends ok sent.pending) ∙ empty in
      let all : text_at rules s e.lines r ≡ e.sent ++ sent.sent =
      answers ∙ ap (λ l. e.sent ++ l) (sent.parts ∙ ap (λ l. sent.sent ++ l) rest ∙ append-nil sent.sent) in record {
        input = e.given;
        output = e.sent ++ sent.sent;
        delivered = e.consumed;
        accepted = Accepts-kept w u x (e.sent ++ sent.sent) (Accepts-trans w v u e.sent sent.sent e.appended sent.appended) kept;
        is_prefix = λ more last. let text = output_begins s a b w v pending r e more last in (text.0, text.1 ∙ ap (λ l. l ++ text.0) all);
        is_output = subst (IsOutput limit rules s e.given b r) all (written s a b w v pending r other e);
      }

  -- a run that succeeded has answered its whole input
  pub AnswersAll-ok : (s : S) (a b : SourceState) (w v : SinkState) (r : Result (Unit {0}) RunError) → Runs limit rules s a b w v r
      → OnOk r (AnswersAll (script_text rules limit s) a b w v)
  AnswersAll-ok s a b w v (Ok u) runs = (runs.input, runs.delivered, runs.is_output.0, subst (Accepts w v) runs.is_output.2 runs.accepted)
  AnswersAll-ok s a b w v (Err e) runs = tt
