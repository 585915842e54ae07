use Rattle.std.proofs.Common.{◌≡◌, ◌<◌, ◌+◌, ◌^◌, ◌++◌, ℕ, List, [], length, length-append, append_assoc, arith, sym, ap, subst, ◌∙◌, inl, inr}
use Rattle.std.proofs.lemmas.Result.{err_from_is_err_and}
use Rattle.moc_text.specs.Parsers.{HasParsed}
use Rattle.moc_text.specs.Private.AsciiReading.{Progress}
use Rattle.moc_text.specs.Private.AsciiSegments.{EndsBetweenWords}
use Rattle.moc_text.proofs.AsciiSegments.{progress_pending, progress_longer, ends_append, first_error_lasts}
use Rattle.moc_text.proofs.ascii.parser.AsciiParser.push_segment.Goals as goal
use Rattle.moc_text.proofs.ascii.parser.AsciiParser.push_segment.Goals.{After-deref-2, After-place}

-- the premises of the first call of `read_words`
record First (c : After-deref-2) (text : List ℕ) : Type 0 where
  offset : length (text ++ c.in-Some-split_after_first_separator.front.now) ≡ c.place-offset.result + length c.deref-2.result.now
  fits : length (text ++ c.in-Some-split_after_first_separator.front.now) < 2 ^ 64
  start : Progress (text ++ c.in-Some-split_after_first_separator.front.now) c.deref-2.result.now c.args.self.now.reading.cells c.args.self.now.reading.order c.args.self.now.reading.moc_order

first : (c : After-deref-2) (text : List ℕ) → HasParsed text c.args.self.now → First c text
first c text before =
    let front = c.in-Some-split_after_first_separator.front.now in
    let back = c.in-Some-split_after_first_separator.back.now in
    let p = c.args.self.now in
    let items : c.deref-2.result.now ≡ p.pending.items ++ front = c.deref-2.ensures.value ∙ c.in_ok-extend_from_slice-2.ensures.items in
    record {
      offset = omega (arith, c.place-offset.ensures, c.deref.ensures.len, before.len_is, ap length before.parts, length-append before.before p.pending.items, length-append text front, ap length items, length-append p.pending.items front);
      fits = omega (arith, c.in-Some.ensures, before.len_is, length-append text front, ap length c.in-Some-split_after_first_separator.ensures.0, length-append front back);
      start = subst (λ (t : List ℕ). Progress (text ++ front) t p.reading.cells p.reading.order p.reading.moc_order) (sym items) (progress_pending text front p before);
    }

-- the two parts of the segment
segment_parts : (c : After-deref-2) (text : List ℕ) → (text ++ c.in-Some-split_after_first_separator.front.now) ++ c.in-Some-split_after_first_separator.back.now ≡ text ++ c.args.bytes.now
segment_parts c text =
    append_assoc text c.in-Some-split_after_first_separator.front.now c.in-Some-split_after_first_separator.back.now
    ∙ ap (λ (t : List ℕ). text ++ t) (sym c.in-Some-split_after_first_separator.ensures.0)

pub returns-in_err-read_words : goal.returns-in_err-read_words
returns-in_err-read_words c = λ text before.
    let p = err_from_is_err_and c.from_residual-in_err-read_words.result c.from_residual-in_err-read_words.ensures.1 in
    let at = (goal.at.returns-in_err-read_words c).After-deref-2 in
    let front = c.in-Some-split_after_first_separator.front.now in
    let back = c.in-Some-split_after_first_separator.back.now in
    let first = first at text before in
    rw (p.1, p.2) (elim (c.in_err-read_words.ensures (text ++ front) first.offset first.fits first.start) [
      | inl memory ↦ inl memory
      | inr fault ↦ inr (first_error_lasts (text ++ front) back (text ++ c.args.bytes.now) c.in_err-read_words.field-0.0 (segment_parts at text) (c.in-Some-split_after_first_separator.ensures.1 text) fault)
    ])

-- the text up to the last separator of the segment
abbrev read_text : After-place → List ℕ → List ℕ
read_text c text = (text ++ c.in-Some-split_after_first_separator.front.now) ++ c.split_after_last_separator.result.0.now

-- the premises of the second call of `read_words`, and the parts of the text after it
record Second (c : After-place) (text : List ℕ) : Type 0 where
  offset : length (read_text c text) ≡ c.place.result + length c.split_after_last_separator.result.0.now
  fits : length (read_text c text) < 2 ^ 64
  start : Progress (read_text c text) c.split_after_last_separator.result.0.now c.read_words.new.self.cells c.read_words.new.self.order c.read_words.new.self.moc_order
  ends : EndsBetweenWords (read_text c text)
  parts : read_text c text ++ c.split_after_last_separator.result.1.now ≡ text ++ c.args.bytes.now
  whole : c.in-Some.len ≡ length (text ++ c.args.bytes.now)

second : (c : After-place) (text : List ℕ) → HasParsed text c.args.self.now
    → (text ++ c.in-Some-split_after_first_separator.front.now) ++ c.in-Some-split_after_first_separator.back.now ≡ text ++ c.args.bytes.now
    → Progress (text ++ c.in-Some-split_after_first_separator.front.now) [] c.read_words.new.self.cells c.read_words.new.self.order c.read_words.new.self.moc_order
    → Second c text
second c text before segment read =
    let front = c.in-Some-split_after_first_separator.front.now in
    let back = c.in-Some-split_after_first_separator.back.now in
    let complete = c.split_after_last_separator.result.0.now in
    let unfinished = c.split_after_last_separator.result.1.now in
    let ends = c.in-Some-split_after_first_separator.ensures.1 text in
    let parts : ((text ++ front) ++ complete) ++ unfinished ≡ text ++ c.args.bytes.now =
    append_assoc (text ++ front) complete unfinished ∙ ap (λ (t : List ℕ). (text ++ front) ++ t) (sym c.split_after_last_separator.ensures.parts) ∙ segment in
    let whole : c.in-Some.len ≡ length (text ++ c.args.bytes.now) = omega (arith, c.in-Some.ensures, before.len_is, length-append text c.args.bytes.now) in
    record {
      offset = omega (arith, whole, ap length segment, length-append (text ++ front) back, length-append (text ++ front) complete, c.place.ensures);
      fits = omega (arith, c.in-Some.ensures, whole, ap length parts, length-append ((text ++ front) ++ complete) unfinished);
      start = progress_longer (text ++ front) complete c.read_words.new.self.cells c.read_words.new.self.order c.read_words.new.self.moc_order ends read;
      ends = ends_append (text ++ front) complete ends c.split_after_last_separator.ensures.ends;
      parts = parts;
      whole = whole;
    }

pub returns-in_err-read_words-2 : goal.returns-in_err-read_words-2
returns-in_err-read_words-2 c = λ text before.
    let p = err_from_is_err_and c.from_residual-in_err-read_words-2.result c.from_residual-in_err-read_words-2.ensures.1 in
    let at = (goal.at.returns-in_err-read_words-2 c).After-deref-2 in
    let front = c.in-Some-split_after_first_separator.front.now in
    let first = first at text before in
    let second = second (goal.at.returns-in_err-read_words-2 c).After-place text before (segment_parts at text) (c.in_ok-read_words.ensures (text ++ front) first.offset first.fits first.start) in
    let complete = c.split_after_last_separator.result.0.now in
    rw (p.1, p.2) (elim (c.in_err-read_words-2.ensures ((text ++ front) ++ complete) second.offset second.fits second.start) [
      | inl memory ↦ inl memory
      | inr fault ↦ inr (first_error_lasts ((text ++ front) ++ complete) c.split_after_last_separator.result.1.now (text ++ c.args.bytes.now) c.in_err-read_words-2.field-0.0 second.parts second.ends fault)
    ])

pub returns : goal.returns
returns c = λ text before.
    let at = (goal.at.returns c).After-deref-2 in
    let front = c.in-Some-split_after_first_separator.front.now in
    let first = first at text before in
    let second = second (goal.at.returns c).After-place text before (segment_parts at text) (c.in_ok-read_words.ensures (text ++ front) first.offset first.fits first.start) in
    let complete = c.split_after_last_separator.result.0.now in
    let unfinished = c.split_after_last_separator.result.1.now in
    let pending : c.extend_from_slice-3.new.self.items ≡ unfinished = c.in_ok-extend_from_slice-3.ensures.items ∙ ap (λ (t : List ℕ). t ++ unfinished) c.clear.ensures.items in
    record {
      before = (text ++ front) ++ complete;
      parts = sym second.parts ∙ ap (λ (t : List ℕ). ((text ++ front) ++ complete) ++ t) (sym pending);
      ends = second.ends;
      read = c.in_ok-read_words-2.ensures ((text ++ front) ++ complete) second.offset second.fits second.start;
      len_is = second.whole;
      fits = omega (arith, c.in-Some.ensures, second.whole);
      without_error = before.without_error;
    }
