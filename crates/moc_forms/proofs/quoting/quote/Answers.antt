use Rattle.std.proofs.Common.{◌∙◌, ℕ, List, Some, ap, sym}
use Rattle.std.specs.String.{string_bytes}
use Rattle.moc_forms.specs.Quotes.{quote_text, word_around}
use Rattle.moc_forms.proofs.Pieces.{at_byte, at_line, digits_before, of_json}
use Rattle.moc_forms.proofs.quoting.quote.Goals as goal

pub returns-in_ok-quote_of-in-Some-2 : goal.returns-in_ok-quote_of-in-Some-2
returns-in_ok-quote_of-in-Some-2 c =
    let stands = rw c.in-Some-2.is at c.in_ok-piece.ensures in
    of_json c.args.text.now c.args.error c.in-Some.error (Some (string_bytes c.in-Some-2.piece)) _ (sym c.json.ensures ∙ c.in-Some.is) stands
    (ap (λ (q : List ℕ). Some q) c.in_ok-quote_of-in-Some-2.ensures ∙ ap (λ (b : List ℕ). Some (quote_text b 0)) c.as_bytes.ensures.value)

pub returns-in-Some-byte : goal.returns-in-Some-byte
returns-in-Some-byte c =
    let text = c.args.text.now in
    at_byte text c.args.error c.in-Some-byte.at _ (sym c.json.ensures ∙ c.in_default.is) (sym c.byte.ensures ∙ c.in-Some-byte.is)
    (ap (λ (q : List ℕ). Some q) c.in_ok-quote_of.ensures
    ∙ ap (λ (w : List ℕ). Some (quote_text w c.offset_in_word.result)) c.word_around_place-word.ensures
    ∙ ap (λ (o : ℕ). Some (quote_text (word_around text c.in-Some-byte.at) o)) c.offset_in_word.ensures)

pub returns : goal.returns
returns c =
    let line = c.in-Some-line.number in
    at_line c.args.text.now c.args.error line _ (sym c.json.ensures ∙ c.in_default.is) (sym c.byte.ensures ∙ c.in_default-byte.is)
    (sym c.line.ensures ∙ c.in-Some-line.is)
    (ap (λ (q : List ℕ). Some q) c.in_ok-quote_of-2.ensures
    ∙ ap (λ (o : ℕ). Some (quote_text c.line_at-line.result.now o)) c.leading_digit_count.ensures
    ∙ ap (λ (l : List ℕ). Some (quote_text l (digits_before l))) c.line_at-line.ensures)
