-- Parsing NUNIQ lists in segments.
use Rattle.std.proofs.Common.{◌≡◌, ℕ, ◌+◌, ◌-◌, ◌<◌, ◌≤◌, true, false, cond, List, [], ◌∷◌, ◌++◌, length, map, get_or, take, Option, None, Some, Result, Ok, Err, refl, sym, ap, subst, ◌∙◌, arith, length-append, append_assoc, inl, inr}
use Rattle.std.specs.List.{onto_first}
use Rattle.std.specs.Option.{option_or}
use Rattle.std.specs.Result.{MatchResult, result_err}
use Rattle.std.specs.FinSet as set
use Rattle.std.specs.Str.Parse.{digits_value}
use Rattle.std.proofs.lemmas.Bool.{cases_lt}
use Rattle.std.proofs.lemmas.List.{append-nil, take_more}
use Rattle.moc_sphere.specs.CellNumber.{uniq_of}
use Rattle.moc_lists.specs.RangeList.{NumberSet}
use Rattle.moc_ranges.specs.Errors.{first_error_of}
use Rattle.moc_text.specs.Lines.{is_line_feed, lines_of}
use Rattle.moc_text.specs.UniqList.{uniq_line_error, uniq_error, numbers_on}
use Rattle.moc_text.specs.Private.UniqReading.{AreLinesRead}
use Rattle.moc_text.specs.Private.UniqSegments.{EndsBetweenLines, HasParsedUniq}
use Rattle.moc_text.specs.declared.uniq.UniqError.{UniqError}
use Rattle.moc_text.specs.declared.uniq.parser.UniqParser.{UniqParser}

-- ---- where a text may be split

line_before : (b : ℕ) (xs ys : List (List ℕ)) → 0 < length xs → onto_first b (xs ++ ys) ≡ onto_first b xs ++ ys
line_before b [] ys some = absurd (omega arith)
line_before b (x ∷ xs) ys some = refl

some_first : (b : ℕ) (xs : List (List ℕ)) → 0 < length (onto_first b xs)
some_first b [] = omega arith
some_first b (x ∷ xs) = omega arith

some_lines : (b : ℕ) (bytes : List ℕ) → 0 < length (lines_of (b ∷ bytes))
some_lines b bytes = elim (is_line_feed b) as (λ v. 0 < length (cond v ([] ∷ lines_of bytes) (onto_first b (lines_of bytes)))) [
  | true ↦ omega arith
  | false ↦ some_first b (lines_of bytes)
]

some_after : (front : List ℕ) (b : ℕ) → 0 < length (lines_of (front ++ b ∷ []))
some_after [] b = some_lines b []
some_after (c ∷ front) b = some_lines c (front ++ b ∷ [])

lines_around : (front : List ℕ) (b : ℕ) (rest : List ℕ) → is_line_feed b ≡ true → lines_of ((front ++ b ∷ []) ++ rest) ≡ lines_of (front ++ b ∷ []) ++ lines_of rest
lines_around [] b rest h = rw h refl
lines_around (c ∷ front) b rest h =
    let more = lines_around front b rest h in
    elim (is_line_feed c) as (λ v. cond v ([] ∷ lines_of ((front ++ b ∷ []) ++ rest)) (onto_first c (lines_of ((front ++ b ∷ []) ++ rest))) ≡ cond v ([] ∷ lines_of (front ++ b ∷ [])) (onto_first c (lines_of (front ++ b ∷ []))) ++ lines_of rest) [
      | true ↦ ap (λ (ls : List (List ℕ)). [] ∷ ls) more
      | false ↦ ap (onto_first c) more ∙ line_before c (lines_of (front ++ b ∷ [])) (lines_of rest) (some_after front b)
    ]

pub ends_empty : EndsBetweenLines []
ends_empty rest = refl

pub ends_append : (a b : List ℕ) → EndsBetweenLines a → EndsBetweenLines b → EndsBetweenLines (a ++ b)
ends_append a b h k = λ rest.
    ap lines_of (append_assoc a b rest) ∙ h (b ++ rest) ∙ ap (λ (ls : List (List ℕ)). lines_of a ++ ls) (k rest)
    ∙ sym (append_assoc (lines_of a) (lines_of b) (lines_of rest)) ∙ ap (λ (ls : List (List ℕ)). ls ++ lines_of rest) (sym (h b))

-- bytes up to a line feed, including it, after any bytes
pub ends_at : (before bytes : List ℕ) (i : ℕ) → i < length bytes → is_line_feed (get_or bytes i 0) ≡ true → EndsBetweenLines (before ++ take (i + 1) bytes)
ends_at before bytes i lt h =
    let parts : (before ++ take i bytes) ++ get_or bytes i 0 ∷ [] ≡ before ++ take (i + 1) bytes = append_assoc before (take i bytes) (get_or bytes i 0 ∷ []) ∙ ap (λ (t : List ℕ). before ++ t) (sym (take_more bytes i 0 lt)) in
    subst EndsBetweenLines parts (λ rest. lines_around (before ++ take i bytes) (get_or bytes i 0) rest h)

-- bytes without a byte, or with a line feed as the last one
pub ends_by : (bytes : List ℕ) (n : ℕ) → n ≤ length bytes → (0 < n → is_line_feed (get_or bytes (n - 1) 0) ≡ true) → EndsBetweenLines (take n bytes)
ends_by bytes n le h = elim (cases_lt 0 n) [
  | inl some ↦
      let next : n - 1 + 1 ≡ n = omega (arith, some) in
      subst (λ m. EndsBetweenLines (take m bytes)) next (ends_at [] bytes (n - 1) (omega (arith, some, le)) (h some))
  | inr none ↦
      let zero : 0 ≡ n = omega (arith, none) in
      subst (λ m. EndsBetweenLines (take m bytes)) zero ends_empty
]

-- ---- a longer text

numbers_append : (xs ys : List (List ℕ)) → numbers_on (xs ++ ys) ≡ numbers_on xs ++ numbers_on ys
numbers_append [] ys = refl
numbers_append ([] ∷ xs) ys = numbers_append xs ys
numbers_append ((b ∷ l) ∷ xs) ys = ap (λ (r : List ℕ). digits_value 10 (b ∷ l) ∷ r) (numbers_append xs ys)

no_error_first : (f g : Option UniqError) → option_or f g ≡ None → (f ≡ None) × (g ≡ None)
no_error_first None g h = (refl, h)
no_error_first (Some e) g h = absurd cc

errors_after : (n : ℕ) (xs ys : List (List ℕ)) → first_error_of uniq_line_error n xs ≡ None → first_error_of uniq_line_error n (xs ++ ys) ≡ first_error_of uniq_line_error (n + length xs) ys
errors_after n [] ys h = ap (λ m. first_error_of uniq_line_error m ys) (omega arith)
errors_after n (x ∷ xs) ys h =
    let none = no_error_first (uniq_line_error n x) (first_error_of uniq_line_error (n + 1) xs) h in
    let place : n + 1 + length xs ≡ n + length (x ∷ xs) = omega arith in
    ap (λ f. option_or f (first_error_of uniq_line_error (n + 1) (xs ++ ys))) none.0
    ∙ errors_after (n + 1) xs ys none.1
    ∙ ap (λ m. first_error_of uniq_line_error m ys) place

option_or_lasts : (f g k : Option UniqError) (e : UniqError) → option_or f g ≡ Some e → (g ≡ Some e → k ≡ Some e) → option_or f k ≡ Some e
option_or_lasts None g k e h next = next h
option_or_lasts (Some d) g k e h next = h

error_stays : (n : ℕ) (xs ys : List (List ℕ)) (e : UniqError) → first_error_of uniq_line_error n xs ≡ Some e → first_error_of uniq_line_error n (xs ++ ys) ≡ Some e
error_stays n [] ys e h = absurd cc
error_stays n (x ∷ xs) ys e h = option_or_lasts (uniq_line_error n x) (first_error_of uniq_line_error (n + 1) xs) (first_error_of uniq_line_error (n + 1) (xs ++ ys)) e h (error_stays (n + 1) xs ys e)

pub lines_longer : (first line : ℕ) (text bytes : List ℕ) (start a : NumberSet) → EndsBetweenLines text → AreLinesRead first text start line [] a → AreLinesRead first (text ++ bytes) start line bytes a
lines_longer first line text bytes start a ends r =
    let number : first + length (lines_of text) ≡ line = omega (arith, r.number) in
    record {
      part = record {
        cells = r.part.cells;
        are_cells = r.part.are_cells;
        numbers = ap numbers_on (ends bytes) ∙ numbers_append (lines_of text) (lines_of bytes) ∙ ap (λ (r : List ℕ). r ++ numbers_on (lines_of bytes)) (r.part.numbers ∙ append-nil (map uniq_of r.part.cells));
        set_is = r.part.set_is;
      };
      fault = ap (first_error_of uniq_line_error first) (ends bytes) ∙ errors_after first (lines_of text) (lines_of bytes) r.fault ∙ ap (λ n. first_error_of uniq_line_error n (lines_of bytes)) number;
      number = omega (arith, number, ap length (ends bytes), length-append (lines_of text) (lines_of bytes));
      within = omega (arith, r.within, length-append text bytes);
    }

-- ---- the next segment

-- the pending bytes and the next bytes, up to a line feed
pub lines_pending : (text more : List ℕ) (p : UniqParser) → HasParsedUniq text p → AreLinesRead 1 (text ++ more) set.empty p.line (p.pending.items ++ more) p.cells
lines_pending text more p h =
    let parts : h.before ++ (p.pending.items ++ more) ≡ text ++ more = sym (append_assoc h.before p.pending.items more) ∙ ap (λ (t : List ℕ). t ++ more) (sym h.parts) in
    subst (λ (t : List ℕ). AreLinesRead 1 t set.empty p.line (p.pending.items ++ more) p.cells) parts (lines_longer 1 p.line h.before (p.pending.items ++ more) set.empty p.cells h.ends h.read)

-- the last line of the text
pub lines_last : (text : List ℕ) (p : UniqParser) → HasParsedUniq text p → AreLinesRead 1 text set.empty p.line p.pending.items p.cells
lines_last text p h =
    subst (λ (t : List ℕ). AreLinesRead 1 t set.empty p.line p.pending.items p.cells) (sym h.parts) (lines_longer 1 p.line h.before p.pending.items set.empty p.cells h.ends h.read)

-- the first error of the bytes up to a line feed is that of every longer text
pub first_error_lasts : (front back text : List ℕ) (line : ℕ) (bytes : List ℕ) (a : NumberSet) (e : UniqError) → front ++ back ≡ text → EndsBetweenLines front → AreLinesRead 1 front set.empty line bytes a
    → first_error_of uniq_line_error line (lines_of bytes) ≡ Some e → (rest : List ℕ) → uniq_error (text ++ rest) ≡ Some e
unfolding uniq_error
first_error_lasts front back text line bytes a e parts ends r fault = λ rest.
    let whole : text ++ rest ≡ front ++ (back ++ rest) = ap (λ (t : List ℕ). t ++ rest) (sym parts) ∙ append_assoc front back rest in
    ap (λ (t : List ℕ). first_error_of uniq_line_error 1 (lines_of t)) whole
    ∙ ap (first_error_of uniq_line_error 1) (ends (back ++ rest))
    ∙ error_stays 1 (lines_of front) (lines_of (back ++ rest)) e (r.fault ∙ fault)

-- the parser keeps the error of a segment
pub error_kept : (text : List ℕ) (p : UniqParser) (Q : UniqError → Type 0) (r : Result Unit UniqError) (error : Option UniqError) → error ≡ result_err r → MatchResult r (λ _. HasParsedUniq text p) Q
    → MatchResult r (λ _. HasParsedUniq text (record { cells = p.cells; line = p.line; pending = p.pending; error = error })) Q
error_kept text p Q (Ok x) error is h = record { before = h.before; parts = h.parts; ends = h.ends; read = h.read; without_error = is }
error_kept text p Q (Err f) error is h = h
