-- Parsing word by word.
use Rattle.std.proofs.Common.{◌≡◌, ℕ, ◌+◌, ◌-◌, ◌<◌, ◌≤◌, true, false, List, [], ◌∷◌, ◌++◌, length, get_or, Option, Some, None, Ok, Err, refl, sym, ap, subst, ◌∙◌, arith, length-append, append_assoc, inl, inr}
use Rattle.std.specs.List.{take_while}
use Rattle.std.specs.Option.{option_or}
use Rattle.std.specs.FinSet as set
use Rattle.std.proofs.lemmas.List.{append-nil}
use Rattle.moc_text.specs.Ascii.{is_separator, Word, words, words_from, Shape, shape_text, IsShape, numbers_at, HasNumbers}
use Rattle.moc_text.specs.Ascii.{current_order, order_after, mark_error, item_error, error_of, item_pixels}
use Rattle.moc_text.specs.Ascii.{pixels_of_words, deeper, deepest_of, AreNumbersOf, HasShapeError, IsFirstError, Represents}
use Rattle.moc_lists.specs.RangeList.{NumberSet}
use Rattle.moc_ranges.specs.Lemmas.{union-assoc, empty-union, union-empty}
use Rattle.moc_text.specs.Private.Scan.{is_end, scan_word}
use Rattle.moc_text.specs.Private.AsciiReading.{Progress}
use Rattle.moc_text.specs.declared.ascii.number.Numeral.{Numeral}
use Rattle.moc_text.specs.declared.ascii.number.WordNumbers.{WordNumbers}
use Rattle.moc_text.specs.declared.ascii.error.TextError.{TextError}
use Rattle.moc_text.proofs.Automaton.{Start, run, accepts, run-shape}
use Rattle.moc_text.proofs.WordBoundaries.{is_word_byte, IsWordPart, no_separator, after_word_bytes, words_begin, words_skip, words_front}
use Rattle.moc_text.proofs.Held.{order_small, saturated_option, mark_error-saturated, order_at-saturated, item_error-saturated, item_pixels-saturated, IsSmall}
use Rattle.moc_text.proofs.Scanning.{Scanned, WordOutcome, word_outcome}

-- ---- one more word

AreNumbersOf_push : (before : Option ℕ) (ws : List Word) (ns : List WordNumbers) (w : Word) (n : WordNumbers) → AreNumbersOf before ws ns → HasNumbers w n → error_of (order_after before ns) w.at n ≡ None → AreNumbersOf before (ws ++ w ∷ []) (ns ++ n ∷ [])
AreNumbersOf_push before [] [] w n h m f = (m, f, tt)
AreNumbersOf_push before (v ∷ ws) (k ∷ ns) w n h m f = (h.0, h.1, AreNumbersOf_push (current_order before k.mark) ws ns w n h.2 m f)
AreNumbersOf_push before [] (k ∷ ns) w n h m f = absurd h
AreNumbersOf_push before (v ∷ ws) [] w n h m f = absurd h

order_after_push : (before : Option ℕ) (ns : List WordNumbers) (n : WordNumbers) → order_after before (ns ++ n ∷ []) ≡ current_order (order_after before ns) n.mark
order_after_push before [] n = refl
order_after_push before (k ∷ ns) n = order_after_push (current_order before k.mark) ns n

pixels_of_words_push : (before : Option ℕ) (ns : List WordNumbers) (n : WordNumbers) → pixels_of_words before (ns ++ n ∷ []) ≡ set.union (pixels_of_words before ns) (item_pixels (current_order (order_after before ns) n.mark) n.item)
pixels_of_words_push before [] n = union-empty (item_pixels (current_order before n.mark) n.item) ∙ sym (empty-union (item_pixels (current_order before n.mark) n.item))
pixels_of_words_push before (k ∷ ns) n =
    ap (set.union (item_pixels (current_order before k.mark) k.item)) (pixels_of_words_push (current_order before k.mark) ns n)
    ∙ sym (union-assoc (item_pixels (current_order before k.mark) k.item) (pixels_of_words (current_order before k.mark) ns) _)

pub deeper_assoc : (a b c : Option ℕ) → deeper (deeper a b) c ≡ deeper a (deeper b c)
deeper_assoc None b c = refl
deeper_assoc (Some i) None c = refl
deeper_assoc (Some i) (Some j) None = refl
deeper_assoc (Some i) (Some j) (Some k) = ap (λ (n : ℕ). Some n) (omega arith)

pub deeper-None : (a : Option ℕ) → deeper a None ≡ a
deeper-None None = refl
deeper-None (Some i) = refl

deepest_of_push : (ns : List WordNumbers) (n : WordNumbers) → deepest_of (ns ++ n ∷ []) ≡ deeper (deepest_of ns) (current_order None n.mark)
deepest_of_push [] n = deeper-None (current_order None n.mark)
deepest_of_push (k ∷ ns) n = ap (deeper (current_order None k.mark)) (deepest_of_push ns n) ∙ sym (deeper_assoc (current_order None k.mark) (deepest_of ns) (current_order None n.mark))

-- ---- the loop

pub progress_none : (text : List ℕ) → Progress text text set.empty None None
progress_none text = record {
  good = [];
  numbers = [];
  within = omega arith;
  parts = ap (λ n. words_from n text) (omega arith);
  read = tt;
  set_is = refl;
  order_is = refl;
  moc_order_is = refl;
}

pub progress_skip : (text : List ℕ) (b : ℕ) (rest : List ℕ) (a : NumberSet) (order moc_order : Option ℕ) → is_separator b ≡ true → Progress text (b ∷ rest) a order moc_order → Progress text rest a order moc_order
progress_skip text b rest a order moc_order h p =
    let place : length text - length (b ∷ rest) + 1 ≡ length text - length rest = omega (arith, p.within) in
    record {
      good = p.good;
      numbers = p.numbers;
      within = omega (arith, p.within);
      parts = p.parts ∙ ap (λ (ws : List Word). p.good ++ ws) (words_skip b rest (length text - length (b ∷ rest)) h ∙ ap (λ n. words_from n rest) place);
      read = p.read;
      set_is = p.set_is;
      order_is = p.order_is;
      moc_order_is = p.moc_order_is;
    }

-- a valid word is not empty and has no separator
pub shape_part : (s : Shape) → IsShape s → IsWordPart (shape_text s)
shape_part s h = no_separator Start (shape_text s) (λ dead. let no : false ≡ true = sym (ap accepts dead) ∙ run-shape s h in absurd cc)

some_bytes : (w : List ℕ) → accepts (run Start w) ≡ true → 0 < length w
some_bytes [] e = absurd cc
some_bytes (b ∷ w) e = omega arith

pub shape_some : (s : Shape) → IsShape s → 0 < length (shape_text s)
shape_some s h = some_bytes (shape_text s) (run-shape s h)

pub after_shorter : (len : ℕ) (bytes : List ℕ) (n : WordNumbers) (rest : List ℕ) → Scanned len bytes n rest → length rest < length bytes
after_shorter len bytes n rest s = omega (arith, ap length s.parts, length-append (shape_text s.shape) rest, shape_some s.shape s.is_valid_shape)

-- the words, starting with a scanned one
words_scanned : (text rest : List ℕ) (n : WordNumbers) (after : List ℕ) → length rest ≤ length text → (s : Scanned (length text) rest n after)
    → words_from (length text - length rest) rest ≡ record { at = length text - length rest; bytes = shape_text s.shape } ∷ words_from (length text - length after) after
words_scanned text rest n after le s =
    let at = length text - length rest in
    let place : at + length (shape_text s.shape) ≡ length text - length after = omega (arith, le, ap length s.parts, length-append (shape_text s.shape) after) in
    ap (words_from at) s.parts
    ∙ words_front (shape_text s.shape) after at (shape_some s.shape s.is_valid_shape) (shape_part s.shape s.is_valid_shape) s.ends
    ∙ ap (λ n. record { at = at; bytes = shape_text s.shape } ∷ words_from n after) place

-- the exact numbers of a scanned word
abbrev true_numbers : (len : ℕ) (bytes : List ℕ) (n : WordNumbers) (rest : List ℕ) → Scanned len bytes n rest → WordNumbers
true_numbers len bytes n rest s = numbers_at (len - length bytes) s.shape

first_none : (f g : Option TextError) → option_or f g ≡ None → f ≡ None
first_none None g h = refl
first_none (Some f) g h = absurd cc

pub small_order : (before : Option ℕ) (m : Option Numeral) → IsSmall before → mark_error m ≡ None → IsSmall (current_order before m)
small_order before None small h = small
small_order before (Some n) small h = λ k e.
    let is : n.value ≡ k = cc in
    subst (λ v. v ≤ 29) is (order_small n h)

order_after_small : (before : Option ℕ) (ws : List Word) (ns : List WordNumbers) → IsSmall before → AreNumbersOf before ws ns → IsSmall (order_after before ns)
order_after_small before [] [] small h = small
order_after_small before [] (n ∷ ns) small h = absurd h
order_after_small before (w ∷ ws) [] small h = absurd h
order_after_small before (w ∷ ws) (n ∷ ns) small h = order_after_small (current_order before n.mark) ws ns (small_order before n.mark small (first_none (mark_error n.mark) (item_error (current_order before n.mark) w.at n.item) h.1)) h.2

none_small : IsSmall None
none_small k e = absurd cc

-- the current order is valid
pub small_current_order : (text rest : List ℕ) (a : NumberSet) (order moc_order : Option ℕ) → Progress text rest a order moc_order → IsSmall order
small_current_order text rest a order moc_order p = subst IsSmall (sym p.order_is) (order_after_small None p.good p.numbers none_small p.read)

-- if no bytes remain, all words are parsed
pub represents_at_end : (text : List ℕ) (a : NumberSet) (order moc_order : Option ℕ) → Progress text [] a order moc_order → Represents text a moc_order
represents_at_end text a order moc_order p =
    let all : p.good ≡ words text = sym (p.parts ∙ append-nil p.good) in
    record {
      numbers = p.numbers;
      read = subst (λ (ws : List Word). AreNumbersOf None ws p.numbers) all p.read;
      set_is = p.set_is;
      moc_order_is = p.moc_order_is;
    }

neither_error : (f g : Option TextError) → f ≡ None → g ≡ None → option_or f g ≡ None
neither_error f g h k = rw h k

pub progress_word : (text rest : List ℕ) (a : NumberSet) (order moc_order : Option ℕ) (n : WordNumbers) (after : List ℕ) (a' : NumberSet) (order' moc_order' : Option ℕ)
    → IsSmall order → Progress text rest a order moc_order → Scanned (length text) rest n after
    → mark_error n.mark ≡ None → order' ≡ current_order order n.mark → moc_order' ≡ deeper moc_order (current_order None n.mark)
    → item_error order' (length text - length rest) n.item ≡ None → a' ≡ set.union a (item_pixels order' n.item)
    → Progress text after a' order' moc_order'
progress_word text rest a order moc_order n after a' order' moc_order' small p s mf oi di if si =
    let at = length text - length rest in
    let t = numbers_at at s.shape in
    let mark : mark_error t.mark ≡ None = sym (mark_error-saturated t.mark) ∙ ap (λ (x : WordNumbers). mark_error x.mark) (sym s.is) ∙ mf in
    let o : order' ≡ current_order order t.mark = oi ∙ ap (λ (x : WordNumbers). current_order order x.mark) s.is ∙ order_at-saturated order t.mark mark in
    let small' : IsSmall (current_order order t.mark) = small_order order t.mark small mark in
    let item : item_error (current_order order t.mark) at t.item ≡ None = sym (item_error-saturated (current_order order t.mark) at t.item small') ∙ ap (λ k. item_error k at (saturated_option t.item)) (sym o) ∙ ap (λ (x : WordNumbers). item_error order' at x.item) (sym s.is) ∙ if in
    let added : a' ≡ set.union a (item_pixels (current_order order t.mark) t.item) = si ∙ ap (set.union a) (ap (λ (x : WordNumbers). item_pixels order' x.item) s.is ∙ ap (λ k. item_pixels k (saturated_option t.item)) o ∙ item_pixels-saturated (current_order order t.mark) at t.item small' item) in
    let d : moc_order' ≡ deeper moc_order (current_order None t.mark) = di ∙ ap (deeper moc_order) (ap (λ (x : WordNumbers). current_order None x.mark) s.is ∙ order_at-saturated None t.mark mark) in
    let w : Word = record { at = at; bytes = shape_text s.shape } in
    let fault : error_of (order_after None p.numbers) at t ≡ None = ap (λ k. error_of k at t) (sym p.order_is) ∙ neither_error (mark_error t.mark) (item_error (current_order order t.mark) at t.item) mark item in
    record {
      good = p.good ++ w ∷ [];
      numbers = p.numbers ++ t ∷ [];
      within = omega (arith, p.within, after_shorter (length text) rest n after s);
      parts = p.parts ∙ ap (λ (ws : List Word). p.good ++ ws) (words_scanned text rest n after p.within s) ∙ sym (append_assoc p.good (w ∷ []) (words_from (length text - length after) after));
      read = AreNumbersOf_push None p.good p.numbers w t p.read (s.shape, s.is_valid_shape, refl, refl) fault;
      set_is = added ∙ ap (λ (r : NumberSet). set.union r (item_pixels (current_order order t.mark) t.item)) p.set_is ∙ ap (λ k. set.union (pixels_of_words None p.numbers) (item_pixels (current_order k t.mark) t.item)) p.order_is ∙ sym (pixels_of_words_push None p.numbers t);
      order_is = o ∙ ap (λ k. current_order k t.mark) p.order_is ∙ sym (order_after_push None p.numbers t);
      moc_order_is = d ∙ ap (λ k. deeper k (current_order None t.mark)) p.moc_order_is ∙ sym (deepest_of_push p.numbers t);
    }

-- ---- errors

-- a word without a valid shape
pub first_error_in_shape : (text : List ℕ) (b : ℕ) (rest : List ℕ) (a : NumberSet) (order moc_order : Option ℕ) (f : TextError)
    → Progress text (b ∷ rest) a order moc_order → is_separator b ≡ false
    → HasShapeError (record { at = length text - length (b ∷ rest); bytes = take_while is_word_byte (b ∷ rest) }) f → IsFirstError text f
first_error_in_shape text b rest a order moc_order f p h fault = record {
  good = p.good;
  numbers = p.numbers;
  bad = record { at = length text - length (b ∷ rest); bytes = take_while is_word_byte (b ∷ rest) };
  others = words_from (length text - length (b ∷ rest) + length (take_while is_word_byte (b ∷ rest))) (after_word_bytes (b ∷ rest));
  parts = p.parts ∙ ap (λ (ws : List Word). p.good ++ ws) (words_begin b rest (length text - length (b ∷ rest)) h);
  before = p.read;
  fault = inl fault;
}

-- a valid word with an error
first_error_in_numbers : (text rest : List ℕ) (a : NumberSet) (order moc_order : Option ℕ) (n : WordNumbers) (after : List ℕ) (f : TextError)
    → Progress text rest a order moc_order → (s : Scanned (length text) rest n after)
    → error_of order (length text - length rest) (numbers_at (length text - length rest) s.shape) ≡ Some f → IsFirstError text f
first_error_in_numbers text rest a order moc_order n after f p s fault =
    let at = length text - length rest in
    let t = numbers_at at s.shape in
    record {
      good = p.good;
      numbers = p.numbers;
      bad = record { at = at; bytes = shape_text s.shape };
      others = words_from (length text - length after) after;
      parts = p.parts ∙ ap (λ (ws : List Word). p.good ++ ws) (words_scanned text rest n after p.within s);
      before = p.read;
      fault = inr (t, (s.shape, s.is_valid_shape, refl, refl), ap (λ k. error_of k at t) (sym p.order_is) ∙ fault);
    }

pub first_error_in_mark : (text rest : List ℕ) (a : NumberSet) (order moc_order : Option ℕ) (n : WordNumbers) (after : List ℕ) (f : TextError)
    → Progress text rest a order moc_order → Scanned (length text) rest n after → mark_error n.mark ≡ Some f → IsFirstError text f
first_error_in_mark text rest a order moc_order n after f p s h =
    let at = length text - length rest in
    let t = numbers_at at s.shape in
    let mark : mark_error t.mark ≡ Some f = sym (mark_error-saturated t.mark) ∙ ap (λ (x : WordNumbers). mark_error x.mark) (sym s.is) ∙ h in
    first_error_in_numbers text rest a order moc_order n after f p s (rw mark refl)

pub first_error_in_item : (text rest : List ℕ) (a : NumberSet) (order moc_order : Option ℕ) (n : WordNumbers) (after : List ℕ) (order' : Option ℕ) (f : TextError)
    → IsSmall order → Progress text rest a order moc_order → Scanned (length text) rest n after → mark_error n.mark ≡ None → order' ≡ current_order order n.mark → item_error order' (length text - length rest) n.item ≡ Some f → IsFirstError text f
first_error_in_item text rest a order moc_order n after order' f small p s mf oi h =
    let at = length text - length rest in
    let t = numbers_at at s.shape in
    let mark : mark_error t.mark ≡ None = sym (mark_error-saturated t.mark) ∙ ap (λ (x : WordNumbers). mark_error x.mark) (sym s.is) ∙ mf in
    let o : order' ≡ current_order order t.mark = oi ∙ ap (λ (x : WordNumbers). current_order order x.mark) s.is ∙ order_at-saturated order t.mark mark in
    let small' : IsSmall (current_order order t.mark) = small_order order t.mark small mark in
    let item : item_error (current_order order t.mark) at t.item ≡ Some f = sym (item_error-saturated (current_order order t.mark) at t.item small') ∙ ap (λ k. item_error k at (saturated_option t.item)) (sym o) ∙ ap (λ (x : WordNumbers). item_error order' at x.item) (sym s.is) ∙ h in
    first_error_in_numbers text rest a order moc_order n after f p s (rw mark item)

-- ---- the scanner's result in the loop

is_end-first : (rest : List ℕ) → 0 < length rest → is_end rest ≡ is_separator (get_or rest 0 0)
is_end-first [] h = absurd (omega arith)
is_end-first (b ∷ rest) h = refl

pub scanned_word : (len : ℕ) (rest : List ℕ) (n : WordNumbers) (after : List ℕ) → length rest ≤ len → 0 < length rest → is_separator (get_or rest 0 0) ≡ false → scan_word len rest ≡ Ok (n, after) → Scanned len rest n after
scanned_word len rest n after le some h e = subst (WordOutcome len rest) e (word_outcome len rest le (is_end-first rest some ∙ h))

pub first_error_of_scan : (text rest : List ℕ) (a : NumberSet) (order moc_order : Option ℕ) (f : TextError) → Progress text rest a order moc_order → 0 < length rest → is_separator (get_or rest 0 0) ≡ false → scan_word (length text) rest ≡ Err f → IsFirstError text f
first_error_of_scan text [] a order moc_order f p some h e = absurd (omega arith)
first_error_of_scan text (b ∷ rest) a order moc_order f p some h e =
    first_error_in_shape text b rest a order moc_order f p h (subst (WordOutcome (length text) (b ∷ rest)) e (word_outcome (length text) (b ∷ rest) p.within h))
