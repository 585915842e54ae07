-- Parsing the ASCII format in segments.
use Rattle.std.proofs.Common.{◌≡◌, ℕ, ◌+◌, ◌-◌, ◌<◌, ◌≤◌, true, List, [], ◌∷◌, ◌++◌, length, get_or, take, Option, Result, Ok, Err, sym, ap, subst, ◌∙◌, arith, length-append, append_assoc, inl, inr}
use Rattle.std.proofs.lemmas.Bool.{cases_lt}
use Rattle.std.specs.Result.{MatchResult, result_err}
use Rattle.std.proofs.lemmas.List.{append-nil, take_more}
use Rattle.moc_lists.specs.RangeList.{NumberSet}
use Rattle.moc_text.specs.Ascii.{is_separator, Word, words, words_from, IsFirstError}
use Rattle.moc_text.specs.Private.AsciiReading.{Progress}
use Rattle.moc_text.specs.Private.AsciiSegments.{EndsBetweenWords, HasParsed}
use Rattle.moc_text.specs.declared.ascii.error.TextError.{TextError}
use Rattle.moc_text.specs.declared.ascii.parser.AsciiParser.{AsciiParser}
use Rattle.moc_text.proofs.WordBoundaries.{words_around}

-- ---- where a text may be split

pub ends_empty : EndsBetweenWords []
ends_empty at rest = ap (λ n. words_from n rest) (omega arith)

pub ends_append : (a b : List ℕ) → EndsBetweenWords a → EndsBetweenWords b → EndsBetweenWords (a ++ b)
ends_append a b h k = λ at rest.
    let place : at + length a + length b ≡ at + length (a ++ b) = omega (arith, length-append a b) in
    ap (words_from at) (append_assoc a b rest)
    ∙ h at (b ++ rest)
    ∙ ap (λ (ws : List Word). words_from at a ++ ws) (k (at + length a) rest ∙ ap (λ n. words_from (at + length a) b ++ words_from n rest) place)
    ∙ sym (append_assoc (words_from at a) (words_from (at + length a) b) (words_from (at + length (a ++ b)) rest))
    ∙ ap (λ (ws : List Word). ws ++ words_from (at + length (a ++ b)) rest) (sym (h at b))

-- bytes up to a separator, including it, after any bytes
pub ends_at : (before bytes : List ℕ) (i : ℕ) → i < length bytes → is_separator (get_or bytes i 0) ≡ true → EndsBetweenWords (before ++ take (i + 1) bytes)
ends_at before bytes i lt h =
    let parts : (before ++ take i bytes) ++ get_or bytes i 0 ∷ [] ≡ before ++ take (i + 1) bytes = append_assoc before (take i bytes) (get_or bytes i 0 ∷ []) ∙ ap (λ (t : List ℕ). before ++ t) (sym (take_more bytes i 0 lt)) in
    subst EndsBetweenWords parts (λ at rest. words_around (before ++ take i bytes) (get_or bytes i 0) rest at h)

-- bytes without a byte, or with a separator as the last one
pub ends_by : (bytes : List ℕ) (n : ℕ) → n ≤ length bytes → (0 < n → is_separator (get_or bytes (n - 1) 0) ≡ true) → EndsBetweenWords (take n bytes)
ends_by bytes n le h = elim (cases_lt 0 n) [
  | inl some ↦
      let next : n - 1 + 1 ≡ n = omega (arith, some) in
      subst (λ m. EndsBetweenWords (take m bytes)) next (ends_at [] bytes (n - 1) (omega (arith, some, le)) (h some))
  | inr none ↦
      let zero : 0 ≡ n = omega (arith, none) in
      subst (λ m. EndsBetweenWords (take m bytes)) zero ends_empty
]

-- ---- a longer text

pub words_longer : (text rest : List ℕ) → EndsBetweenWords text → words (text ++ rest) ≡ words text ++ words_from (length text) rest
words_longer text rest ends =
    let place : 0 + length text ≡ length text = omega arith in
    ends 0 rest ∙ ap (λ n. words text ++ words_from n rest) place

pub progress_longer : (text bytes : List ℕ) (a : NumberSet) (order moc_order : Option ℕ) → EndsBetweenWords text → Progress text [] a order moc_order → Progress (text ++ bytes) bytes a order moc_order
progress_longer text bytes a order moc_order ends p =
    let place : length text ≡ length (text ++ bytes) - length bytes = omega (arith, length-append text bytes) in
    record {
      good = p.good;
      numbers = p.numbers;
      within = omega (arith, length-append text bytes);
      parts = words_longer text bytes ends ∙ ap (λ (ws : List Word). ws ++ words_from (length text) bytes) (p.parts ∙ append-nil p.good) ∙ ap (λ n. p.good ++ words_from n bytes) place;
      read = p.read;
      set_is = p.set_is;
      order_is = p.order_is;
      moc_order_is = p.moc_order_is;
    }

pub first_error_longer : (text rest : List ℕ) (f : TextError) → EndsBetweenWords text → IsFirstError text f → IsFirstError (text ++ rest) f
first_error_longer text rest f ends e = record {
  good = e.good;
  numbers = e.numbers;
  bad = e.bad;
  others = e.others ++ words_from (length text) rest;
  parts = words_longer text rest ends ∙ ap (λ (ws : List Word). ws ++ words_from (length text) rest) e.parts ∙ append_assoc e.good (e.bad ∷ e.others) (words_from (length text) rest);
  before = e.before;
  fault = e.fault;
}

-- ---- the next segment

-- the pending bytes and the next bytes, up to a separator
pub progress_pending : (text more : List ℕ) (p : AsciiParser) → HasParsed text p → Progress (text ++ more) (p.pending.items ++ more) p.reading.cells p.reading.order p.reading.moc_order
progress_pending text more p h =
    let parts : h.before ++ (p.pending.items ++ more) ≡ text ++ more = sym (append_assoc h.before p.pending.items more) ∙ ap (λ (t : List ℕ). t ++ more) (sym h.parts) in
    subst (λ (t : List ℕ). Progress t (p.pending.items ++ more) p.reading.cells p.reading.order p.reading.moc_order) parts (progress_longer h.before (p.pending.items ++ more) p.reading.cells p.reading.order p.reading.moc_order h.ends h.read)

-- the first error of the bytes up to a separator is that of every longer text
pub first_error_lasts : (front back text : List ℕ) (f : TextError) → front ++ back ≡ text → EndsBetweenWords front → IsFirstError front f → (rest : List ℕ) → IsFirstError (text ++ rest) f
first_error_lasts front back text f parts ends e = λ rest.
    let whole : front ++ (back ++ rest) ≡ text ++ rest = sym (append_assoc front back rest) ∙ ap (λ (t : List ℕ). t ++ rest) parts in
    subst (λ (t : List ℕ). IsFirstError t f) whole (first_error_longer front (back ++ rest) f ends e)

-- the last word of the text
pub progress_last : (text : List ℕ) (p : AsciiParser) → HasParsed text p → Progress text p.pending.items p.reading.cells p.reading.order p.reading.moc_order
progress_last text p h =
    subst (λ (t : List ℕ). Progress t p.pending.items p.reading.cells p.reading.order p.reading.moc_order) (sym h.parts) (progress_longer h.before p.pending.items p.reading.cells p.reading.order p.reading.moc_order h.ends h.read)

-- the parser keeps the error of a segment
pub error_kept : (text : List ℕ) (p : AsciiParser) (Q : TextError → Type 0) (r : Result Unit TextError) (error : Option TextError) → error ≡ result_err r → MatchResult r (λ _. HasParsed text p) Q
    → MatchResult r (λ _. HasParsed text (record { reading = p.reading; pending = p.pending; len = p.len; error = error })) Q
error_kept text p Q (Ok x) error is h = record { before = h.before; parts = h.parts; ends = h.ends; read = h.read; len_is = h.len_is; fits = h.fits; without_error = is }
error_kept text p Q (Err f) error is h = h
