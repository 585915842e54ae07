-- The loop that answers lines.
use Rattle.std.proofs.Common.{◌≡◌, ◌≢◌, inl, inr, ℕ, suc, Bool, false, ◌+◌, ◌-◌, ◌<◌, ◌≤◌, List, [], ◌∷◌, ◌++◌, length}
use Rattle.std.proofs.Common.{take, get_or, Option, Some, None, Result, Ok, Err, refl, sym, ap, ◌∙◌, arith}
use Rattle.std.proofs.Common.{append_assoc, append-nil, length-append, subst}
use Rattle.std.specs.List.{count_by, position_or_len, before_first, after_first, AllByRecursion}
use Rattle.std.specs.Result.{is_err, IsErrAnd, OnOk, OnErr, IfErr}
use Rattle.std.specs.Io.KnownBytes.{IsAtEnd}
use Rattle.moc_devices.specs.Devices.{SourceState, Delivers, IsEnded, SinkState, Accepts}
use Rattle.moc_devices.specs.Lemmas.{Accepts-nil, Accepts-trans, Delivers-nil, Delivers-trans}
use Rattle.std.proofs.Math.Seq.{take-append_seam}
use Rattle.std.proofs.lemmas.Bool.{ltb-true}
use Rattle.std.proofs.lemmas.List.{get_or-append-add, take_all}
use Rattle.moc_text.specs.Lines.{is_line_feed, lines_of}
use Rattle.moc_lines.specs.Private.ReaderState.{ReaderState, HasNoLineFeed}
use Rattle.moc_lines.specs.Private.LineReading.{IsOfLine, PermitsReadsWithinLine, ReadsLine, has_line}
use Rattle.moc_lines.specs.Runs.{Rules, answers_to, after_lines, AreShort, IsTooLong, IsUnfinishedLine, IsUnclosed}
use Rattle.moc_lines.specs.Runs.{AreLinesAnswered, HasNotEnded, whole_lines_of, lines_before}
use Rattle.moc_devices.specs.Devices.{Sends}
use Rattle.moc_lines.specs.Private.Ended.{Ended, EndsAt, IsSent}
use Rattle.moc_lines.specs.declared.line_reader.LineKind.{LineKind}
use Rattle.moc_lines.specs.declared.run_error.RunError.{RunError}
use Rattle.moc_lines.specs.declared.line_reader.LineKind.TheVariants.{Line, LastLine, EndOfInput}
use Rattle.moc_lines.specs.declared.run_error.RunError.TheVariants.{Read, Write, LineTooLong, Memory, Spawn}
use Rattle.moc_lines.proofs.LineLemmas.{count-append, some-lines, count-cons, lines_of-line, lines_of-last}
use Rattle.moc_lines.proofs.LineLemmas.{lines_of-long, not_true, split_at_line_feed}
use Rattle.moc_lines.proofs.Outcomes.{at_ok, error_passed_to_outcome}
use Rattle.moc_lines.proofs.Turns.{HasNotEnded-later}

-- lines, each with its line feed
pub ended : List (List ℕ) → List ℕ
ended [] = []
ended (line ∷ lines) = line ++ 10 ∷ ended lines

lines_of-ended : (lines : List (List ℕ)) (rest : List ℕ) → AllByRecursion HasNoLineFeed lines → lines_of (ended lines ++ rest) ≡ lines ++ lines_of rest
unfolding ended
lines_of-ended [] rest each = refl
lines_of-ended (line ∷ lines) rest each =
    ap lines_of (append_assoc line (10 ∷ ended lines) rest) ∙ lines_of-line line (ended lines ++ rest) each.0 ∙ ap (λ l. line ∷ l) (lines_of-ended lines rest each.1)

count-ended : (lines : List (List ℕ)) → AllByRecursion HasNoLineFeed lines → count_by is_line_feed (ended lines) ≡ length lines
unfolding ended
count-ended [] each = refl
count-ended (line ∷ lines) each =
    let tail : count_by is_line_feed (10 ∷ ended lines) ≡ suc (length lines) = omega (arith, count-cons 10 (ended lines), count-ended lines each.1) in
    count-append line (10 ∷ ended lines) ∙ omega (arith, tail, each.0)

ended-push : (lines : List (List ℕ)) (line : List ℕ) → ended (lines ++ line ∷ []) ≡ ended lines ++ (line ++ 10 ∷ [])
unfolding ended
ended-push [] line = refl
ended-push (first ∷ lines) line =
    ap (λ l. first ++ 10 ∷ l) (ended-push lines line) ∙ sym (append_assoc first (10 ∷ ended lines) (line ++ 10 ∷ []))

pub each-push : {X : Type 0} (P : X → Type 0) (xs : List X) (x : X) → AllByRecursion P xs → P x → AllByRecursion P (xs ++ x ∷ [])
each-push P [] x each last = (last, tt)
each-push P (y ∷ xs) x each last = (each.0, each-push P xs x each.1 last)

pub at_end : (c : Option (List ℕ)) (more : List ℕ) → IsAtEnd c → c ≡ Some more → more ≡ []
at_end None more end is = cc
at_end (Some xs) more end is = let same : xs ≡ more = cc in sym same ∙ end

-- the result of a read, or the error, by its name
pub at_line_kind : (limit : ℕ) (old new : ReaderState) (a b : SourceState) (found name : LineKind) → found ≡ name → ReadsLine limit old a new b (Ok found) → ReadsLine limit old a new b (Ok name)
at_line_kind limit old new a b found name is takes = subst (λ (f : LineKind). ReadsLine limit old a new b (Ok f)) is takes

-- if the buffer has no line feed and none came, it has no whole line
no_line_in_buffer : (unread came : List ℕ) → HasNoLineFeed (unread ++ came) → has_line unread ≡ false
no_line_in_buffer unread came unbroken =
    not_true (has_line unread) (λ held.
    let front = before_first is_line_feed unread in
    let following = after_first is_line_feed unread in
    let is : unread ≡ front ++ 10 ∷ following = split_at_line_feed unread (ltb-true (position_or_len is_line_feed unread) (length unread) held) in
    absurd (omega (arith, sym (count-append unread came) ∙ unbroken, ap (count_by is_line_feed) is ∙ count-append front (10 ∷ following), count-cons 10 following)))

module _ {S : Type 0} (limit : ℕ) (rules : Rules S) where
  pub answers_to-push : (s : S) (lines : List (List ℕ)) (line : List ℕ) → answers_to rules s (lines ++ line ∷ []) ≡ answers_to rules s lines ++ rules.answer (after_lines rules s lines) line
  answers_to-push s [] line = append-nil (rules.answer s line)
  answers_to-push s (first ∷ lines) line =
      ap (λ l. rules.answer s first ++ l) (answers_to-push (rules.after s first) lines line) ∙ sym (append_assoc (rules.answer s first) _ _)

  pub after_lines-push : (s : S) (lines : List (List ℕ)) (line : List ℕ) → after_lines rules s (lines ++ line ∷ []) ≡ rules.after (after_lines rules s lines) line
  after_lines-push s [] line = refl
  after_lines-push s (first ∷ lines) line = after_lines-push (rules.after s first) lines line

  -- the lines so far are at the front of what was given, and the buffer follows; their answers are written or pending
  pub record Progress (s now : S) (source source' : SourceState) (sink sink' : SinkState) (unread pending : List ℕ) (number : ℕ) : Type 0 where
    pub lines : List (List ℕ)
    pub given : List ℕ
    pub sent : List ℕ
    pub consumed : Delivers source source' given
    pub appended : Accepts sink sink' sent
    pub split : given ≡ ended lines ++ unread
    pub unbroken : AllByRecursion HasNoLineFeed lines
    pub within : AreShort limit lines
    pub text : answers_to rules s lines ≡ sent ++ pending
    pub state : now ≡ after_lines rules s lines
    pub count : number ≡ length lines + 1

  -- all lines are answered, and the reader is at its end
  pub record ReachedEnd (s now : S) (source source' : SourceState) (sink sink' : SinkState) (pending : List ℕ) (number : ℕ) : Type 0 where
    pub lines : List (List ℕ)
    pub given : List ℕ
    pub sent : List ℕ
    pub consumed : Delivers source source' given
    pub appended : Accepts sink sink' sent
    pub within : AreShort limit lines
    pub front : (more : List ℕ) → (IsEnded source' → more ≡ []) → (rest : List (List ℕ)) × (lines_of (given ++ more) ≡ lines ++ rest)
    pub end : IsEnded source'
    pub all : lines ≡ lines_of given
    pub text : answers_to rules s lines ≡ sent ++ pending
    pub state : now ≡ after_lines rules s lines
    pub count : number ≡ length lines + 1

  pub Progress-start : (s : S) (a : SourceState) (w : SinkState) (unread pending : List ℕ) → unread ≡ [] → pending ≡ [] → Progress s s a a w w unread pending 1
  unfolding ended
  Progress-start s a w unread pending none empty = record {
    lines = [];
    given = [];
    sent = [];
    consumed = Delivers-nil a;
    appended = Accepts-nil w;
    split = sym none;
    unbroken = tt;
    within = tt;
    text = sym empty;
    state = refl;
    count = refl;
  }

  pub Progress-sent : {E : Type 0} (s now : S) (a b : SourceState) (w v u : SinkState) (held held' : ReaderState) (pending pending' later : List ℕ) (number : ℕ) (r : Result (Unit {0}) E)
      → Progress s now a b w v held.unread pending number → is_err r ≡ false → Sends pending v pending' u r → held' ≡ held → later ≡ pending' → Progress s now a b w u held'.unread later number
  Progress-sent s now a b w v u held held' pending pending' later number r p ok sends same kept = record {
    lines = p.lines;
    given = p.given;
    sent = p.sent ++ sends.sent;
    consumed = p.consumed;
    appended = Accepts-trans w v u p.sent sends.sent p.appended sends.appended;
    split = p.split ∙ ap (λ (h : ReaderState). ended p.lines ++ h.unread) (sym same);
    unbroken = p.unbroken;
    within = p.within;
    text = p.text ∙ ap (λ l. p.sent ++ l) (sends.parts ∙ ap (λ l. sends.sent ++ l) (sym (at_ok r ok sends.pending) ∙ sym kept)) ∙ sym (append_assoc p.sent sends.sent later);
    state = p.state;
    count = p.count;
  }

  -- the lines are at the front of what was given, whatever follows
  front_of : (lines : List (List ℕ)) (given tail more : List ℕ) → given ≡ ended lines ++ tail → AllByRecursion HasNoLineFeed lines
      → (rest : List (List ℕ)) × (lines_of (given ++ more) ≡ lines ++ rest)
  front_of lines given tail more split unbroken =
      (lines_of (tail ++ more), ap (λ l. lines_of (l ++ more)) split ∙ ap lines_of (append_assoc (ended lines) tail more) ∙ lines_of-ended lines (tail ++ more) unbroken)

  lines_of-given : (lines : List (List ℕ)) (given tail : List ℕ) → given ≡ ended lines ++ tail → AllByRecursion HasNoLineFeed lines → lines_of given ≡ lines ++ lines_of tail
  lines_of-given lines given tail split unbroken = ap lines_of split ∙ lines_of-ended lines tail unbroken

  before : (lines : List (List ℕ)) (given tail : List ℕ) (number : ℕ) → given ≡ ended lines ++ tail → AllByRecursion HasNoLineFeed lines → number ≡ length lines + 1
      → lines ≡ lines_before number given
  before lines given tail number split unbroken count =
      let place : length lines ≡ number - 1 = omega arith in
      sym (take-append_seam lines (lines_of tail)) ∙ ap (λ n. take n (lines ++ lines_of tail)) place ∙ ap (take (number - 1)) (sym (lines_of-given lines given tail split unbroken))

  whole : (lines : List (List ℕ)) (given tail : List ℕ) → given ≡ ended lines ++ tail → AllByRecursion HasNoLineFeed lines → HasNoLineFeed tail
      → lines ≡ whole_lines_of given
  whole lines given tail split unbroken none =
      let count : length lines ≡ count_by is_line_feed given =
      omega (arith, ap (count_by is_line_feed) split, count-append (ended lines) tail, count-ended lines unbroken, none) in
      sym (take-append_seam lines (lines_of tail)) ∙ ap (λ n. take n (lines ++ lines_of tail)) count ∙ ap (take (count_by is_line_feed given)) (sym (lines_of-given lines given tail split unbroken))

  -- A read that is permitted when all answers are accepted is permitted until the next line feed: the buffer has no
  -- whole line then, so that nothing is pending.
  pub Progress-permits : {R W : Type 0} (reading : R → SourceState) (writing : W → SinkState) (mark : R → Bool) (failed : W → Bool) (may_read : R → W → Type 0) (s now : S) (a b : R) (w v : W) (unread pending : List ℕ) (number : ℕ)
      → ((r : R) (x : W) → mark r ≡ false → failed x ≡ false → HasNotEnded (reading a) (reading r) → AreLinesAnswered rules s (reading a) (reading r) (writing w) (writing x) → may_read r x)
      → Progress s now (reading a) (reading b) (writing w) (writing v) unread pending number → (has_line unread ≡ false → pending ≡ [])
      → HasNotEnded (reading a) (reading b) → mark b ≡ false → failed v ≡ false → PermitsReadsWithinLine reading mark (λ r. may_read r v) unread b
  Progress-permits reading writing mark failed may_read s now a b w v unread pending number permits p written feed_offset reader writer = λ later came more same further unbroken.
      let split : p.given ++ came ≡ ended p.lines ++ (unread ++ came) = ap (λ l. l ++ came) p.split ∙ append_assoc (ended p.lines) unread came in
      let lines = whole p.lines (p.given ++ came) (unread ++ came) split p.unbroken unbroken in
      let sent : p.sent ≡ answers_to rules s (whole_lines_of (p.given ++ came)) =
      sym (append-nil p.sent) ∙ ap (λ l. p.sent ++ l) (sym (written (no_line_in_buffer unread came unbroken))) ∙ sym p.text ∙ ap (answers_to rules s) lines in
      permits later v (same ∙ reader) writer (HasNotEnded-later (reading a) (reading b) (reading later) feed_offset further) (record {
        given = p.given ++ came;
        delivered = Delivers-trans (reading a) (reading b) (reading later) p.given came p.consumed more;
        accepted = subst (Accepts (writing w) (writing v)) sent p.appended;
      })

  too_long : (lines : List (List ℕ)) (given tail : List ℕ) (number : ℕ) → given ≡ ended lines ++ tail → AllByRecursion HasNoLineFeed lines → number ≡ length lines + 1
      → (first : List ℕ) (more : List (List ℕ)) → lines_of tail ≡ first ∷ more → limit < length first → IsTooLong limit (lines_of given) number
  too_long lines given tail number split unbroken count first more is long =
      let place : number - 1 ≡ length lines + 0 = omega arith in
      let all = lines_of-given lines given tail split unbroken ∙ ap (λ l. lines ++ l) is in
      let found : get_or (lines_of given) (number - 1) [] ≡ first =
      ap (λ l. get_or l (number - 1) []) all ∙ ap (λ n. get_or (lines ++ first ∷ more) n []) place ∙ get_or-append-add lines (first ∷ more) 0 [] in
      (omega arith, subst (λ (l : List ℕ). limit < length l) (sym found) long)

  module _ (s now : S) (a b c : SourceState) (w v : SinkState) (held held' : ReaderState) (pending : List ℕ) (number : ℕ) (p : Progress s now a b w v held.unread pending number) where
    split_with : (came : List ℕ) → p.given ++ came ≡ ended p.lines ++ (held.unread ++ came)
    split_with came = ap (λ l. l ++ came) p.split ∙ append_assoc (ended p.lines) held.unread came

    answered : (pending' line : List ℕ) → pending' ≡ pending ++ rules.answer now line → answers_to rules s (p.lines ++ line ∷ []) ≡ p.sent ++ pending'
    answered pending' line text =
        answers_to-push s p.lines line ∙ ap (λ x. answers_to rules s p.lines ++ rules.answer x line) (sym p.state) ∙ ap (λ l. l ++ rules.answer now line) p.text
        ∙ append_assoc p.sent pending (rules.answer now line) ∙ ap (λ l. p.sent ++ l) (sym text)

    pub Progress-line : ReadsLine limit held b held' c (Ok Line) → (now' : S) (pending' : List ℕ) → pending' ≡ pending ++ rules.answer now held'.line → now' ≡ rules.after now held'.line
        → Progress s now' a c w v held'.unread pending' (number + 1)
    Progress-line t now' pending' text state =
        let parts = t.2 in
        record {
          lines = p.lines ++ held'.line ∷ [];
          given = p.given ++ t.0;
          sent = p.sent;
          consumed = Delivers-trans a b c p.given t.0 p.consumed t.1;
          appended = p.appended;
          split = split_with t.0 ∙ ap (λ l. ended p.lines ++ l) parts.0 ∙ sym (ap (λ l. l ++ held'.unread) (ended-push p.lines held'.line) ∙ append_assoc (ended p.lines) (held'.line ++ 10 ∷ []) held'.unread ∙ ap (λ l. ended p.lines ++ l) (append_assoc held'.line (10 ∷ []) held'.unread));
          unbroken = each-push HasNoLineFeed p.lines held'.line p.unbroken parts.1;
          within = each-push (λ l. length l ≤ limit) p.lines held'.line p.within parts.2;
          text = answered pending' held'.line text;
          state = state ∙ ap (λ x. rules.after x held'.line) p.state ∙ sym (after_lines-push s p.lines held'.line);
          count = omega (arith, p.count, length-append p.lines (held'.line ∷ []));
        }

    -- the state after every error
    after_error : (came : List ℕ) → Delivers b c came → (pending' : List ℕ) (e : RunError) → pending' ≡ pending
        → EndsAt limit rules s p.lines (p.given ++ came) c (Err e) → (answers_to rules s p.lines ≡ p.sent ++ pending' → IsSent (answers_to rules s p.lines) p.sent pending' (Err e))
        → Ended limit rules s a c w v pending' (Err e)
    after_error came consumed pending' e same ends sent = record {
      lines = p.lines;
      given = p.given ++ came;
      sent = p.sent;
      consumed = Delivers-trans a b c p.given came p.consumed consumed;
      appended = p.appended;
      within = p.within;
      front = λ more _. front_of p.lines (p.given ++ came) (held.unread ++ came) more (split_with came) p.unbroken;
      ends = ends;
      text = sent (p.text ∙ ap (λ l. p.sent ++ l) (sym same));
    }

    -- an allocation failed after some of the line was given, or at the last number
    memory : (came : List ℕ) → Delivers b c came → (number < 18446744073709551615 → 0 < length (held.unread ++ came)) → (pending' : List ℕ) → pending' ≡ pending
        → Ended limit rules s a c w v pending' (Err (Memory number))
    memory came consumed some pending' same =
        let split = split_with came in
        let all : length (lines_of (p.given ++ came)) ≡ length p.lines + length (lines_of (held.unread ++ came)) =
        ap length (lines_of-given p.lines (p.given ++ came) (held.unread ++ came) split p.unbroken) ∙ length-append p.lines (lines_of (held.unread ++ came)) in
        let unfinished_line : IsUnfinishedLine number (p.given ++ came) = record {
          none = λ zero. absurd (omega (arith, zero, p.count));
          some = λ below. omega (arith, all, p.count, some-lines (held.unread ++ came) (some below));
          next = omega (arith, all, p.count);
        } in
        after_error came consumed pending' (Memory number) same (inl unfinished_line, before p.lines (p.given ++ came) (held.unread ++ came) number split p.unbroken p.count) (λ e. e)

    -- the case that there are no more numbers
    pub Ended-uncounted : number ≡ 18446744073709551615 → Delivers b c [] → Ended limit rules s a c w v pending (Err (Memory number))
    Ended-uncounted last consumed = memory [] consumed (λ below. absurd (omega (arith, last, below))) pending refl

    -- an allocation failed while a line was answered
    Ended-unanswered : (found : LineKind) → ReadsLine limit held b held' c (Ok found) → (found ≡ EndOfInput → ⊥) → (pending' : List ℕ) → pending' ≡ pending → Ended limit rules s a c w v pending' (Err (Memory number))
    Ended-unanswered Line t some pending' same = memory t.0 t.1 (λ _. rw t.2.0 (omega (arith, length-append held'.line (10 ∷ held'.unread)))) pending' same
    Ended-unanswered LastLine t some pending' same = memory t.0 t.1 (λ _. rw t.2.0 t.2.3) pending' same
    Ended-unanswered EndOfInput t some pending' same = absurd (some refl)

    read : ReadsLine limit held b held' c (Err Read) → Ended limit rules s a c w v pending (Err Read)
    read t = after_error t.0 t.1 pending Read refl (whole p.lines (p.given ++ t.0) (held.unread ++ t.0) (split_with t.0) p.unbroken t.2) (λ e. e)

    long : (line : ℕ) → ReadsLine limit held b held' c (Err (LineTooLong line)) → Ended limit rules s a c w v pending (Err (LineTooLong number))
    long line t =
        let parts = t.2 in
        let found = lines_of-long limit parts.0 parts.1 parts.3 parts.4 in
        let split = split_with t.0 in
        after_error t.0 t.1 pending (LineTooLong number) refl (
          too_long p.lines (p.given ++ t.0) (held.unread ++ t.0) number split p.unbroken p.count found.0 found.1 (ap lines_of parts.2 ∙ found.2) found.3,
          before p.lines (p.given ++ t.0) (held.unread ++ t.0) number split p.unbroken p.count,
        )
        (λ e. e)

    -- there is no line
    at_error : (f : RunError) → ReadsLine limit held b held' c (Err f) → IsOfLine number f → (pending' : List ℕ) → pending' ≡ pending → Ended limit rules s a c w v pending' (Err f)
    at_error Read t of pending' same = subst (λ (q : List ℕ). Ended limit rules s a c w v q (Err Read)) (sym same) (read t)
    at_error (LineTooLong line) t of pending' same =
        subst (λ (n : ℕ). Ended limit rules s a c w v pending' (Err (LineTooLong n))) (sym of)
        (subst (λ (q : List ℕ). Ended limit rules s a c w v q (Err (LineTooLong number))) (sym same) (long line t))
    at_error (Memory line) t of pending' same =
        subst (λ (n : ℕ). Ended limit rules s a c w v pending' (Err (Memory n))) (sym of) (memory t.0 t.1 (λ _. t.2) pending' same)
    at_error Write t of pending' same = absurd of
    at_error Spawn t of pending' same = absurd of

    pub Ended-error : (r : Result (Unit {0}) RunError) (f : RunError) → IsErrAnd r (λ e. e ≡ f) → ReadsLine limit held b held' c (Err f) → IsOfLine number f → (pending' : List ℕ) → pending' ≡ pending
        → Ended limit rules s a c w v pending' r
    Ended-error r f passed t of pending' same = error_passed_to_outcome r f (λ (q : Result (Unit {0}) RunError). Ended limit rules s a c w v pending' q) passed (at_error f t of pending' same)

    -- there is no line
    pub ReachedEnd-nothing : ReadsLine limit held b held' c (Ok EndOfInput) → ReachedEnd s now a c w v pending number
    ReachedEnd-nothing t =
        let parts = t.2 in
        let split = split_with t.0 in
        record {
          lines = p.lines;
          given = p.given ++ t.0;
          sent = p.sent;
          consumed = Delivers-trans a b c p.given t.0 p.consumed t.1;
          appended = p.appended;
          within = p.within;
          front = λ more _. front_of p.lines (p.given ++ t.0) (held.unread ++ t.0) more split p.unbroken;
          end = parts.2;
          all = sym (lines_of-given p.lines (p.given ++ t.0) (held.unread ++ t.0) split p.unbroken ∙ ap (λ l. p.lines ++ lines_of l) parts.0 ∙ append-nil p.lines);
          text = p.text;
          state = p.state;
          count = p.count;
        }

    -- the last line was answered
    pub ReachedEnd-last : ReadsLine limit held b held' c (Ok LastLine) → (now' : S) (pending' : List ℕ) → pending' ≡ pending ++ rules.answer now held'.line → now' ≡ rules.after now held'.line
        → ReachedEnd s now' a c w v pending' (number + 1)
    ReachedEnd-last t now' pending' text state =
        let parts = t.2 in
        let split = split_with t.0 in
        let all : lines_of (p.given ++ t.0) ≡ p.lines ++ held'.line ∷ [] =
        lines_of-given p.lines (p.given ++ t.0) (held.unread ++ t.0) split p.unbroken ∙ ap (λ l. p.lines ++ lines_of l) parts.0 ∙ ap (λ l. p.lines ++ l) (lines_of-last held'.line parts.1 parts.3) in
        record {
          lines = p.lines ++ held'.line ∷ [];
          given = p.given ++ t.0;
          sent = p.sent;
          consumed = Delivers-trans a b c p.given t.0 p.consumed t.1;
          appended = p.appended;
          within = each-push (λ l. length l ≤ limit) p.lines held'.line p.within parts.2;
          front = λ more is. ([], ap (λ l. lines_of (p.given ++ t.0 ++ l)) (is parts.5) ∙ ap lines_of (append-nil (p.given ++ t.0)) ∙ all ∙ sym (append-nil (p.lines ++ held'.line ∷ [])));
          end = parts.5;
          all = sym all;
          text = answered pending' held'.line text;
          state = state ∙ ap (λ x. rules.after x held'.line) p.state ∙ sym (after_lines-push s p.lines held'.line);
          count = omega (arith, p.count, length-append p.lines (held'.line ∷ []));
        }

    -- a line was not answered
    pub Ended-refused : (found : LineKind) → ReadsLine limit held b held' c (Ok found) → (found ≡ EndOfInput → ⊥) → (pending' : List ℕ) (r : Result (Unit {0}) RunError) (e : RunError)
        → IsErrAnd r (λ f. f ≡ e) → e ≡ Memory number → pending' ≡ pending → Ended limit rules s a c w v pending' r
    Ended-refused found t some pending' (Ok u) e reported refused same = absurd reported
    Ended-refused found t some pending' (Err f) e reported refused same =
        subst (λ (q : RunError). Ended limit rules s a c w v pending' (Err q)) (sym (reported ∙ refused)) (Ended-unanswered found t some pending' same)

  -- all lines are answered, and the closing text was made, or an allocation failed for it
  pub Ended-closed : (s now : S) (a c : SourceState) (w v : SinkState) (pending pending' : List ℕ) (number : ℕ) (r : Result (Unit {0}) RunError) → ReachedEnd s now a c w v pending number
      → OnOk r (pending' ≡ pending ++ rules.closing now) → IfErr r (λ e. e ≡ Memory number) → OnErr r (pending' ≡ pending) → OnErr r (rules.closing now ≢ [])
      → Ended limit rules s a c w v pending' r
  Ended-closed s now a c w v pending pending' number (Ok u) p text refused same some = record {
    lines = p.lines;
    given = p.given;
    sent = p.sent;
    consumed = p.consumed;
    appended = p.appended;
    within = p.within;
    front = p.front;
    ends = (p.end, p.all);
    text = ap (λ l. l ++ rules.closing (after_lines rules s p.lines)) p.text ∙ append_assoc p.sent pending (rules.closing (after_lines rules s p.lines))
        ∙ ap (λ x. p.sent ++ (pending ++ rules.closing x)) (sym p.state) ∙ ap (λ l. p.sent ++ l) (sym text);
  }
  Ended-closed s now a c w v pending pending' number (Err e) p text refused same some =
      let unclosed : IsUnclosed number p.given (rules.closing (after_lines rules s (lines_of p.given))) = record {
        next = omega (arith, p.count, ap length p.all);
        some = λ none. some (ap rules.closing p.state ∙ ap (λ ls. rules.closing (after_lines rules s ls)) p.all ∙ none);
      } in
      let place : number - 1 ≡ length (lines_of p.given) = omega (arith, p.count, ap length p.all) in
      let before_is : p.lines ≡ lines_before number p.given = p.all ∙ sym (take_all (number - 1) (lines_of p.given) (omega (arith, place))) in
      subst (λ (f : RunError). Ended limit rules s a c w v pending' (Err f)) (sym refused) (record {
        lines = p.lines;
        given = p.given;
        sent = p.sent;
        consumed = p.consumed;
        appended = p.appended;
        within = p.within;
        front = p.front;
        ends = (inr (p.end, unclosed), before_is);
        text = p.text ∙ ap (λ l. p.sent ++ l) (sym same);
      })

  -- the writer failed in the middle of the pending answers
  pub Ended-write : {E : Type 0} (s now : S) (a b : SourceState) (w v u : SinkState) (unread pending pending' : List ℕ) (number : ℕ) (r : Result (Unit {0}) E)
      → Progress s now a b w v unread pending number → Sends {E = E} pending v pending' u r → Ended limit rules s a b w u pending' (Err Write)
  Ended-write s now a b w v u unread pending pending' number r p sends = record {
    lines = p.lines;
    given = p.given;
    sent = p.sent ++ sends.sent;
    consumed = p.consumed;
    appended = Accepts-trans w v u p.sent sends.sent p.appended sends.appended;
    within = p.within;
    front = λ more _. front_of p.lines p.given unread more p.split p.unbroken;
    ends = tt;
    text = (sends.rest, p.text ∙ ap (λ l. p.sent ++ l) sends.parts ∙ sym (append_assoc p.sent sends.sent sends.rest));
  }
