use Rattle.std.proofs.Common.{◌≡◌, ◌<◌, ◌+◌, ◌^◌, ℕ, List, length, length-append, arith, sym, ap, subst}
use Rattle.std.proofs.lemmas.Result.{err_from_is_err_and}
use Rattle.moc_text.specs.Parsers.{HasParsed}
use Rattle.moc_text.specs.Private.AsciiReading.{Progress}
use Rattle.moc_text.proofs.ReadWords.{represents_at_end}
use Rattle.moc_text.proofs.Represented.{reading_is, error_is_reading}
use Rattle.moc_text.proofs.AsciiSegments.{progress_last}
use Rattle.moc_text.proofs.ascii.parser.AsciiParser.finish.Goals as goal
use Rattle.moc_text.proofs.ascii.parser.AsciiParser.finish.Goals.{After-deref-2}

-- the premises of the call of `read_words`
record Last (c : After-deref-2) (text : List ℕ) : Type 0 where
  offset : length text ≡ c.place.result + length c.deref-2.result.now
  fits : length text < 2 ^ 64
  start : Progress text c.deref-2.result.now c.args.self.reading.cells c.args.self.reading.order c.args.self.reading.moc_order

last : (c : After-deref-2) (text : List ℕ) → HasParsed text c.args.self → Last c text
last c text before =
    let p = c.args.self in
    let items : c.deref-2.result.now ≡ p.pending.items = c.deref-2.ensures.value in
    record {
      offset = omega (arith, c.place.ensures, c.deref.ensures.len, before.len_is, ap length before.parts, length-append before.before p.pending.items, ap length items);
      fits = before.fits;
      start = subst (λ (t : List ℕ). Progress text t p.reading.cells p.reading.order p.reading.moc_order) (sym items) (progress_last text p before);
    }

pub returns-in_err-read_words-clause-parsed : goal.returns-in_err-read_words-clause-parsed
returns-in_err-read_words-clause-parsed c = λ text before.
    let p = err_from_is_err_and c.from_residual.result c.from_residual.ensures.1 in
    let last = last (goal.at.returns-in_err-read_words-clause-parsed c).After-deref-2 text before in
    rw (p.1, p.2) (c.in_err-read_words.ensures text last.offset last.fits last.start)

pub returns-in_err-read_words-clause-reported : goal.returns-in_err-read_words-clause-reported
returns-in_err-read_words-clause-reported c = λ text before.
    let p = err_from_is_err_and c.from_residual.result c.from_residual.ensures.1 in
    let last = last (goal.at.returns-in_err-read_words-clause-reported c).After-deref-2 text before in
    rw (p.1, p.2) (error_is_reading text _ (c.in_err-read_words.ensures text last.offset last.fits last.start))

pub returns-clause-parsed : goal.returns-clause-parsed
returns-clause-parsed c = λ text before.
    let last = last (goal.at.returns-clause-parsed c).After-deref-2 text before in
    rw c.in_ok-set.ensures (represents_at_end text _ _ _ (c.in_ok-read_words.ensures text last.offset last.fits last.start))

pub returns-clause-reported : goal.returns-clause-reported
returns-clause-reported c = λ text before.
    let last = last (goal.at.returns-clause-reported c).After-deref-2 text before in
    rw c.in_ok-set.ensures (reading_is text _ _ (represents_at_end text _ _ _ (c.in_ok-read_words.ensures text last.offset last.fits last.start)))
