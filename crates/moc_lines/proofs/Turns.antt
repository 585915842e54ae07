-- The loop that looks for a line's end.
use Rattle.std.proofs.Common.{◌≡◌, ℕ, ◌+◌, ◌<◌, ◌≤◌, List, [], ◌∷◌, ◌++◌, length, drop, Ok, Err, sym, ap, ◌∙◌, arith, append_assoc, append-nil, length-append, length-take, not, inr, subst, ⊎_elim}
use Rattle.std.specs.List.{count_by, position_or_len, before_first, after_first}
use Rattle.moc_devices.specs.Devices.{SourceState, Delivers}
use Rattle.moc_devices.specs.Lemmas.{Delivers-trans}
use Rattle.std.proofs.lemmas.List.{take-append-drop}
use Rattle.std.proofs.lemmas.List.Sums.{prefix_len-le-length}
use Rattle.moc_text.specs.Lines.{is_line_feed}
use Rattle.moc_lines.specs.Private.ReaderState.{ReaderState, HasNoLineFeed}
use Rattle.moc_lines.specs.Private.LineReading.{ReadsMore, ReadsLine}
use Rattle.moc_lines.specs.Runs.{HasNotEnded}
use Rattle.moc_lines.specs.declared.line_reader.LineKind.TheVariants.{Line}
use Rattle.moc_lines.specs.declared.run_error.RunError.TheVariants.{LineTooLong}
use Rattle.moc_lines.proofs.LineLemmas.{count-append, HasNoLineFeed-before_first, split_at_line_feed, before_first-none, after_first-none}

-- two steps without an end
pub HasNotEnded-later : (a b c : SourceState) → HasNotEnded a b → HasNotEnded b c → HasNotEnded a c
HasNotEnded-later a b c first later = ⊎_elim (λ same. subst (λ (r : SourceState). HasNotEnded a r) (sym same) first) inr later

-- the bytes that came, after those in the buffer, are the line so far and the buffer; the line has no line feed
pub record Turn (limit : ℕ) (old : ReaderState) (source : SourceState) (now : ReaderState) (source' : SourceState) : Type 0 where
  pub came : List ℕ
  pub consumed : Delivers source source' came
  pub parts : old.unread ++ came ≡ now.line ++ now.unread
  pub unbroken : HasNoLineFeed now.line
  pub within : length now.line ≤ limit

pub Turn-brought : (limit : ℕ) (old now next : ReaderState) (a b c : SourceState) → Turn limit old a now b → ReadsMore now b next c → Turn limit old a next c
Turn-brought limit old now next a b c turn brings = record {
  came = turn.came ++ brings.came;
  consumed = Delivers-trans a b c turn.came brings.came turn.consumed brings.consumed;
  parts = sym (append_assoc old.unread turn.came brings.came) ∙ ap (λ l. l ++ brings.came) turn.parts ∙ append_assoc now.line now.unread brings.came ∙ ap (λ l. l ++ (now.unread ++ brings.came)) (sym brings.line) ∙ ap (λ l. next.line ++ l) (sym brings.unread);
  unbroken = ap (count_by is_line_feed) brings.line ∙ turn.unbroken;
  within = rw brings.line turn.within;
}

-- if the buffer is empty, the line is all that was given
pub Turn-none : (limit : ℕ) (old now : ReaderState) (a b : SourceState) (turn : Turn limit old a now b) → now.unread ≡ [] → old.unread ++ turn.came ≡ now.line
Turn-none limit old now a b turn none = turn.parts ∙ ap (λ l. now.line ++ l) none ∙ append-nil now.line

-- the line with the bytes before the first line feed
no_line_feed_after_append : (line bytes : List ℕ) → HasNoLineFeed line → HasNoLineFeed (line ++ before_first is_line_feed bytes)
no_line_feed_after_append line bytes unbroken = count-append line (before_first is_line_feed bytes) ∙ omega (arith, unbroken, HasNoLineFeed-before_first bytes)

-- the state after the line reader has moved a part
pub record MovesPart (limit : ℕ) (now next : ReaderState) : Type 0 where
  pub line : next.line ≡ now.line ++ before_first is_line_feed now.unread
  pub unread : next.unread ≡ after_first is_line_feed now.unread
  pub within : length next.line ≤ limit

pub Turn-line : (limit : ℕ) (old now next : ReaderState) (a b : SourceState) → Turn limit old a now b → MovesPart limit now next → position_or_len is_line_feed now.unread < length now.unread → ReadsLine limit old a next b (Ok Line)
Turn-line limit old now next a b turn parted found = (
  turn.came,
  turn.consumed,
  (
    turn.parts ∙ ap (λ l. now.line ++ l) (split_at_line_feed now.unread found) ∙ sym (append_assoc now.line (before_first is_line_feed now.unread) (10 ∷ after_first is_line_feed now.unread)) ∙ ap (λ l. l ++ 10 ∷ after_first is_line_feed now.unread) (sym parted.line) ∙ ap (λ l. next.line ++ 10 ∷ l) (sym parted.unread),
    ap (count_by is_line_feed) parted.line ∙ no_line_feed_after_append now.line now.unread turn.unbroken,
    parted.within,
  ),
)

pub Turn-more : (limit : ℕ) (old now next : ReaderState) (a b : SourceState) → Turn limit old a now b → MovesPart limit now next → length now.unread ≤ position_or_len is_line_feed now.unread → Turn limit old a next b
Turn-more limit old now next a b turn parted none = record {
  came = turn.came;
  consumed = turn.consumed;
  parts = turn.parts ∙ ap (λ l. now.line ++ l) (sym (before_first-none now.unread none)) ∙ sym parted.line ∙ sym (append-nil next.line) ∙ ap (λ l. next.line ++ l) (sym (parted.unread ∙ after_first-none now.unread none));
  unbroken = ap (count_by is_line_feed) parted.line ∙ no_line_feed_after_append now.line now.unread turn.unbroken;
  within = parted.within;
}

pub Turn-too_long : (limit : ℕ) (old now next : ReaderState) (a b : SourceState) → Turn limit old a now b → (number : ℕ) → limit < length now.line + position_or_len is_line_feed now.unread → ReadsLine limit old a next b (Err (LineTooLong number))
Turn-too_long limit old now next a b turn number long = (
  turn.came,
  turn.consumed,
  (
    now.line ++ before_first is_line_feed now.unread,
    drop (position_or_len is_line_feed now.unread) now.unread,
    turn.parts ∙ ap (λ l. now.line ++ l) (sym (take-append-drop (position_or_len is_line_feed now.unread) now.unread)) ∙ sym (append_assoc now.line (before_first is_line_feed now.unread) _),
    no_line_feed_after_append now.line now.unread turn.unbroken,
    rw length-append (omega (arith, long, length-take (position_or_len is_line_feed now.unread) now.unread, prefix_len-le-length (λ x. not (is_line_feed x)) now.unread)),
  ),
)
