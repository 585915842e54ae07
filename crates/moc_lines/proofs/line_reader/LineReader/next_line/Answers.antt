-- A part of a line was found, the line was ended, or it is too long.
use Rattle.std.proofs.Common.{◌≡◌, ℕ, zero, suc, ◌<◌, ◌≤◌, ◌||◌, Bool, true, false, eqb, List, [], ◌∷◌, length, sym, ap, ◌∙◌, Result, Err, IfErr, refl, arith, length-append}
use Rattle.std.proofs.lemmas.Bool.{ltb-true, ltb-false, eqb-true}
use Rattle.moc_lines.specs.declared.line_reader.LineKind.{LineKind}
use Rattle.moc_lines.specs.declared.run_error.RunError.{RunError}
use Rattle.moc_lines.specs.declared.run_error.RunError.TheVariants.{Read, Write, LineTooLong, Memory, Spawn}
use Rattle.moc_lines.specs.Private.LineReading.{FailsPart, IsOfLine, ReadsLine}
use Rattle.std.specs.Result.{IsErrAnd}
use Rattle.std.specs.List.{count_by}
use Rattle.moc_text.specs.Lines.{is_line_feed}
use Rattle.moc_lines.specs.Private.ReaderState.{ReaderState}
use Rattle.moc_devices.specs.Devices.{SourceState}
use Rattle.moc_lines.proofs.Outcomes.{error_passed_to_outcome}
use Rattle.moc_lines.proofs.Turns.{HasNotEnded-later, Turn, Turn-brought, Turn-line, Turn-more, Turn-none, Turn-too_long}
use Rattle.moc_lines.proofs.line_reader.LineReader.next_line.Goals as goal

at_error : (limit : ℕ) (old now next : ReaderState) (a b : SourceState) → Turn limit old a now b → (number : ℕ) (error : RunError)
    → FailsPart number limit now error → 0 < length now.unread → ReadsLine limit old a next b (Err error)
at_error limit old now next a b turn number Read fails some = absurd fails
at_error limit old now next a b turn number Write fails some = absurd fails
at_error limit old now next a b turn number Spawn fails some = absurd fails
at_error limit old now next a b turn number (LineTooLong line) fails some = Turn-too_long limit old now next a b turn line fails.1
at_error limit old now next a b turn number (Memory line) fails some = (turn.came, turn.consumed, rw turn.parts (omega (arith, some, length-append now.line now.unread)))

after_error : (limit : ℕ) (old now next : ReaderState) (a b : SourceState) → Turn limit old a now b → (number : ℕ) (r : Result LineKind RunError) (error : RunError) → IsErrAnd r (λ e. e ≡ error)
    → FailsPart number limit now error → 0 < length now.unread → ReadsLine limit old a next b r
after_error limit old now next a b turn number r error passed fails some =
    error_passed_to_outcome r error (λ (q : Result LineKind RunError). ReadsLine limit old a next b q) passed (at_error limit old now next a b turn number error fails some)

of_line : (number limit : ℕ) (now : ReaderState) (error : RunError) → FailsPart number limit now error → IsOfLine number error
of_line number limit now Read fails = absurd fails
of_line number limit now Write fails = absurd fails
of_line number limit now Spawn fails = absurd fails
of_line number limit now (LineTooLong line) fails = fails.0
of_line number limit now (Memory line) fails = fails

none : (xs : List ℕ) → length xs ≤ 0 → xs ≡ []
none [] few = refl
none (x ∷ xs) few = absurd (omega arith)

some : (n : ℕ) → eqb n 0 ≡ false → 0 < n
some zero e = cc
some (suc n) e = omega arith

or_true : (new old : Bool) → new ≡ old || true → new ≡ true
or_true new true e = e
or_true new false e = e

unmarked : (new old : Bool) → new ≡ old || false → new ≡ old
unmarked new true e = e
unmarked new false e = e

pub returns-then-branch-clause-takes : goal.returns-then-branch-clause-takes
returns-then-branch-clause-takes g c =
    let part = c.in_ok-take_part.ensures in
    let turn = Turn-brought _ _ _ _ _ _ _ c.loop-self.invariant.turn c.fill_chunk.ensures.reads_more in
    Turn-line _ _ _ _ _ _ turn (record { line = part.line; unread = part.unread; within = part.within }) (ltb-true _ _ (sym part.found ∙ c.if-branch.true))

pub loop-self-preserved : goal.loop-self-preserved
loop-self-preserved g c =
    let part = c.in_ok-take_part.ensures in
    let turn = Turn-brought _ _ _ _ _ _ _ c.loop-self.invariant.turn c.fill_chunk.ensures.reads_more in
    record {
      turn = Turn-more _ _ _ _ _ _ turn (record { line = part.line; unread = part.unread; within = part.within }) (ltb-false _ _ (sym part.found ∙ c.if-branch.false));
      more = HasNotEnded-later _ _ _ c.loop-self.invariant.more (c.in-Ok-true.ensures.more c.in-Ok-true.field-0-test);
      marks = unmarked _ _ c.in-Ok-true.ensures.marks ∙ c.loop-self.invariant.marks;
    }

pub returns-in_err-take_part-clause-takes : goal.returns-in_err-take_part-clause-takes
returns-in_err-take_part-clause-takes g c =
    let part = c.in_err-take_part.ensures in
    let turn = Turn-brought _ _ _ _ _ _ _ c.loop-self.invariant.turn c.fill_chunk.ensures.reads_more in
    after_error _ _ _ c.take_part.new.self _ _ turn c.args.number c.from_residual.result c.in_err-take_part.field-0.0 c.from_residual.ensures.1 part.fails (ltb-true _ _ (sym c.in-Ok-true.ensures.some ∙ c.in-Ok-true.field-0-test))

pub returns-in_err-take_part-clause-number : goal.returns-in_err-take_part-clause-number
returns-in_err-take_part-clause-number g c =
    error_passed_to_outcome c.from_residual.result c.in_err-take_part.field-0.0 (λ (r : Result LineKind RunError). IfErr r (λ e. IsOfLine c.args.number e)) c.from_residual.ensures.1
    (of_line c.args.number 1048576 c.fill_chunk.new.self c.in_err-take_part.field-0.0 c.in_err-take_part.ensures.fails)

pub returns-in-Err : goal.returns-in-Err
returns-in-Err g c =
    let turn = Turn-brought _ _ _ _ _ _ _ c.loop-self.invariant.turn c.fill_chunk.ensures.reads_more in
    record {
      takes = (turn.came, turn.consumed, ap (count_by is_line_feed) (Turn-none _ _ _ _ _ turn c.in-Err.ensures.err) ∙ turn.unbroken);
      number = tt;
      more = λ e. cc;
      read = λ _. or_true _ _ c.in-Err.ensures.marks;
      unmarked = λ other. absurd (other refl);
    }

pub returns-in-Ok-false : goal.returns-in-Ok-false
returns-in-Ok-false g c =
    let turn = Turn-brought _ _ _ _ _ _ _ c.loop-self.invariant.turn c.fill_chunk.ensures.reads_more in
    let unread = none _ (ltb-false 0 _ (sym c.in-Ok-false.ensures.some ∙ c.in-Ok-false.field-0-test)) in
    let empty : length c.fill_chunk.new.self.line ≤ 0 =
    omega (arith, ap (λ (h : ReaderState). length h.line) c.self-in-loop-self.view_is, c.self-in-loop-self.inside.line.ok, eqb-true _ 0 (sym c.is_empty.ensures ∙ c.if-is_empty.true)) in
    record {
      takes = (turn.came, turn.consumed, (Turn-none _ _ _ _ _ turn unread ∙ none _ empty, unread, c.in-Ok-false.ensures.end c.in-Ok-false.field-0-test));
      number = tt;
      more = λ e. cc;
      read = λ e. cc;
      unmarked = λ _. unmarked _ _ c.in-Ok-false.ensures.marks ∙ c.loop-self.invariant.marks;
    }

pub returns-in-Ok-false-2 : goal.returns-in-Ok-false-2
returns-in-Ok-false-2 g c =
    let turn = Turn-brought _ _ _ _ _ _ _ c.loop-self.invariant.turn c.fill_chunk.ensures.reads_more in
    let unread = none _ (ltb-false 0 _ (sym c.in-Ok-false.ensures.some ∙ c.in-Ok-false.field-0-test)) in
    let filled : 0 < length c.fill_chunk.new.self.line =
    omega (arith, ap (λ (h : ReaderState). length h.line) c.self-in-loop-self.view_is, c.self-in-loop-self.inside.line.ok, some _ (sym c.is_empty.ensures ∙ c.if-is_empty.false)) in
    record {
      takes = (turn.came, turn.consumed, (Turn-none _ _ _ _ _ turn unread, turn.unbroken, turn.within, filled, unread, c.in-Ok-false.ensures.end c.in-Ok-false.field-0-test));
      number = tt;
      more = λ e. cc;
      read = λ e. cc;
      unmarked = λ _. unmarked _ _ c.in-Ok-false.ensures.marks ∙ c.loop-self.invariant.marks;
    }
