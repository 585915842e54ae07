-- The reading of a text is the set that it represents, or its first error.
use Rattle.std.proofs.Common.{◌≡◌, ℕ, ◌+◌, ◌-◌, ◌<◌, true, false, not, ◌⊎◌, List, [], ◌∷◌, ◌++◌, length, Option, Some, None, Result, Ok, Err, refl, sym, ap, subst, ◌∙◌, arith, inl, inr}
use Rattle.std.specs.List.{take_while, list_all, AllByRecursion}
use Rattle.std.specs.Option.{option_or}
use Rattle.std.specs.FinSet as set
use Rattle.std.specs.Result.{MatchResult}
use Rattle.std.proofs.lemmas.List.{append-nil}
use Rattle.moc_lists.specs.RangeList.{NumberSet}
use Rattle.moc_text.specs.Ascii.{is_separator, Word, words, Shape, shape_text, IsShape, numbers_at, HasNumbers, HasShapeError}
use Rattle.moc_text.specs.Ascii.{IsError, current_order, order_after, mark_error, item_error, error_of, item_pixels}
use Rattle.moc_text.specs.Ascii.{pixels_of_words, deeper, deepest_of, AreNumbersOf, Represents, IsFirstError}
use Rattle.moc_text.specs.Private.Scan.{◌>>=◌, is_end, scan_word}
use Rattle.moc_text.specs.Private.Scanned.{word_numbers, without_error, numbers_of, reading_of}
use Rattle.moc_text.specs.Reading.{IsReadingOf, ReadingsAreUnique}
use Rattle.moc_text.specs.declared.ascii.number.WordNumbers.{WordNumbers}
use Rattle.moc_text.specs.declared.ascii.error.TextError.{TextError}
use Rattle.moc_text.specs.declared.ascii.error.TextError.TheVariants.{Memory}
use Rattle.moc_text.proofs.Automaton.{both_true}
use Rattle.moc_text.proofs.WordBoundaries.{is_word_byte, IsWordPart, take_while-part, IsWord, words_are}
use Rattle.moc_text.proofs.Held.{saturated, saturated_last, saturated_option, mark_error-saturated, order_at-saturated, item_error-saturated, item_pixels-saturated, IsSmall}
use Rattle.moc_text.proofs.Scanning.{WordOutcome, word_outcome}
use Rattle.moc_text.proofs.ReadWords.{small_order}
use Rattle.moc_text.proofs.UniqueReading.{set_is_unique, first_error_is_unique, value_excludes_error}

-- ---- one word, by its bytes alone

end_has_no_rest : (p rest : List ℕ) → IsWordPart (p ++ rest) → is_end rest ≡ true → rest ≡ []
end_has_no_rest [] [] h e = refl
end_has_no_rest [] (b ∷ rest) h e =
    let k = both_true (is_word_byte b) (list_all is_word_byte rest) h in
    let no : false ≡ true = sym (ap not e) ∙ k.0 in
    absurd cc
end_has_no_rest (b ∷ p) rest h e = end_has_no_rest p rest (both_true (is_word_byte b) (list_all is_word_byte (p ++ rest)) h).1 e

word_bytes_of_word : (bytes : List ℕ) → IsWordPart bytes → take_while is_word_byte bytes ≡ bytes
word_bytes_of_word bytes h = ap (take_while is_word_byte) (sym (append-nil bytes)) ∙ take_while-part bytes [] h ∙ append-nil bytes

word_part_is_not_end : (bytes : List ℕ) → 0 < length bytes → IsWordPart bytes → is_end bytes ≡ false
word_part_is_not_end [] some h = absurd (omega arith)
word_part_is_not_end (b ∷ bytes) some h =
    let k = both_true (is_word_byte b) (list_all is_word_byte bytes) h in
    elim (is_separator b) as (λ v. not v ≡ true → v ≡ false) [ true ↦ λ e. absurd cc | false ↦ λ e. refl ] k.0

abbrev NumbersOutcome : Word → Result WordNumbers TextError → Type 0
NumbersOutcome w (Ok n) = (shape : Shape) × IsShape shape × (w.bytes ≡ shape_text shape) × (n ≡ saturated (numbers_at w.at shape))
NumbersOutcome w (Err f) = HasShapeError w f

from_scan : (w : Word) → IsWord w → (r : Result (WordNumbers × List ℕ) TextError) → WordOutcome (w.at + length w.bytes) w.bytes r → NumbersOutcome w (r >>= (λ scanned. Ok scanned.0))
from_scan w h (Ok x) o =
    let nothing : x.1 ≡ [] = end_has_no_rest (shape_text o.shape) x.1 (subst IsWordPart o.parts h.1) o.ends in
    let place : w.at + length w.bytes - length w.bytes ≡ w.at = omega arith in (
      o.shape,
      o.is_valid_shape,
      o.parts ∙ ap (λ (r : List ℕ). shape_text o.shape ++ r) nothing ∙ append-nil (shape_text o.shape),
      o.is ∙ ap (λ at. saturated (numbers_at at o.shape)) place,
    )
from_scan w h (Err f) o =
    let place : w.at + length w.bytes - length w.bytes ≡ w.at = omega arith in
    let family : Word → Type 0 = λ v. HasShapeError v f in
    subst (λ (at : ℕ). HasShapeError (record { at = at; bytes = w.bytes }) f) place
    (subst (λ (bytes : List ℕ). HasShapeError (record { at = w.at + length w.bytes - length w.bytes; bytes = bytes }) f) (word_bytes_of_word w.bytes h.1) o)

word_is : (w : Word) → IsWord w → NumbersOutcome w (word_numbers w)
word_is w h = from_scan w h (scan_word (w.at + length w.bytes) w.bytes) (word_outcome (w.at + length w.bytes) w.bytes (omega arith) (word_part_is_not_end w.bytes h.0 h.1))

-- ---- capped numbers have the errors of the exact numbers

or_none : (f g : Option TextError) → option_or f g ≡ None → (f ≡ None) × (g ≡ None)
or_none None g h = (refl, h)
or_none (Some f) g h = absurd cc

error_of-saturated : (before : Option ℕ) (at : ℕ) (t : WordNumbers) → IsSmall before → error_of before at (saturated t) ≡ error_of before at t
error_of-saturated before at t small =
    ap (λ f. option_or f (item_error (current_order before (saturated_last t.mark)) at (saturated_option t.item))) (mark_error-saturated t.mark)
    ∙ elim (mark_error t.mark) as (λ v. mark_error t.mark ≡ v → option_or v (item_error (current_order before (saturated_last t.mark)) at (saturated_option t.item)) ≡ option_or v (item_error (current_order before t.mark) at t.item)) [
      | Some f ↦ λ e. refl
      | None ↦ λ e. ap (λ k. item_error k at (saturated_option t.item)) (order_at-saturated before t.mark e) ∙ item_error-saturated (current_order before t.mark) at t.item (small_order before t.mark small e)
    ] refl

-- ---- word by word

record FaultIn (before : Option ℕ) (ws : List Word) (f : TextError) : Type 0 where
  good : List Word
  numbers : List WordNumbers
  bad : Word
  others : List Word
  parts : ws ≡ good ++ bad ∷ others
  read : AreNumbersOf before good numbers
  fault : IsError (order_after before numbers) bad f

abbrev Outcome : Option ℕ → List Word → Result (List WordNumbers) TextError → Type 0
Outcome before ws (Ok ns) = (ts : List WordNumbers) × AreNumbersOf before ws ts × (pixels_of_words before ns ≡ pixels_of_words before ts) × (deepest_of ns ≡ deepest_of ts)
Outcome before ws (Err f) = FaultIn before ws f

-- the words after a parsed one
after_word : (before : Option ℕ) (w : Word) (ws : List Word) (t : WordNumbers) → IsSmall before → HasNumbers w t → error_of before w.at t ≡ None
    → (r : Result (List WordNumbers) TextError) → Outcome (current_order before t.mark) ws r → Outcome before (w ∷ ws) (r >>= (λ ns. Ok (saturated t ∷ ns)))
after_word before w ws t small means none (Err f) o = record {
  good = w ∷ o.good;
  numbers = t ∷ o.numbers;
  bad = o.bad;
  others = o.others;
  parts = ap (λ (r : List Word). w ∷ r) o.parts;
  read = (means, none, o.read);
  fault = o.fault;
}
after_word before w ws t small means none (Ok ns) o =
    let f = or_none (mark_error t.mark) (item_error (current_order before t.mark) w.at t.item) none in
    let k : current_order before (saturated_last t.mark) ≡ current_order before t.mark = order_at-saturated before t.mark f.0 in
    let small' : IsSmall (current_order before t.mark) = small_order before t.mark small f.0 in (
      t ∷ o.0,
      (means, none, o.1),
      ap (λ k. set.union (item_pixels k (saturated_option t.item)) (pixels_of_words k ns)) k
          ∙ ap (λ (s : NumberSet). set.union s (pixels_of_words (current_order before t.mark) ns)) (item_pixels-saturated (current_order before t.mark) w.at t.item small' f.1)
          ∙ ap (set.union (item_pixels (current_order before t.mark) t.item)) o.2,
      ap (λ k. deeper k (deepest_of ns)) (order_at-saturated None t.mark f.0) ∙ ap (deeper (current_order None t.mark)) o.3,
    )

-- the words from one on
abbrev numbers_from_found : Option ℕ → Word → List Word → WordNumbers → Option TextError → Result (List WordNumbers) TextError
numbers_from_found before w ws found fault = without_error fault found >>= (λ n. numbers_of (current_order before n.mark) ws >>= (λ ns. Ok (n ∷ ns)))

from_true : (before : Option ℕ) (w : Word) (ws : List Word) (t : WordNumbers) → IsSmall before → HasNumbers w t → ((k : Option ℕ) → IsSmall k → Outcome k ws (numbers_of k ws))
    → Outcome before (w ∷ ws) (numbers_from_found before w ws (saturated t) (error_of before w.at t))
from_true before w ws t small means later =
    elim (error_of before w.at t) as (λ v. error_of before w.at t ≡ v → Outcome before (w ∷ ws) (numbers_from_found before w ws (saturated t) v)) [
      | Some f ↦ λ e. record { good = []; numbers = []; bad = w; others = ws; parts = refl; read = tt; fault = inr (t, means, e) }
      | None ↦ λ e.
          let f = or_none (mark_error t.mark) (item_error (current_order before t.mark) w.at t.item) e in
          let k : current_order before t.mark ≡ current_order before (saturated_last t.mark) = sym (order_at-saturated before t.mark f.0) in
          let o : Outcome (current_order before t.mark) ws (numbers_of (current_order before t.mark) ws) = later (current_order before t.mark) (small_order before t.mark small f.0) in
          after_word before w ws t small means e (numbers_of (current_order before (saturated_last t.mark)) ws) (subst (λ j. Outcome (current_order before t.mark) ws (numbers_of j ws)) k o)
    ] refl

from_word : (before : Option ℕ) (w : Word) (ws : List Word) → IsSmall before → (r : Result WordNumbers TextError) → NumbersOutcome w r → ((k : Option ℕ) → IsSmall k → Outcome k ws (numbers_of k ws))
    → Outcome before (w ∷ ws) (r >>= (λ found. numbers_from_found before w ws found (error_of before w.at found)))
from_word before w ws small (Err f) o later = record { good = []; numbers = []; bad = w; others = ws; parts = refl; read = tt; fault = inl o }
from_word before w ws small (Ok n) o later =
    let t = numbers_at w.at o.0 in
    subst (λ (n : WordNumbers). Outcome before (w ∷ ws) (numbers_from_found before w ws n (error_of before w.at n))) (sym o.3)
    (subst (λ v. Outcome before (w ∷ ws) (numbers_from_found before w ws (saturated t) v)) (sym (error_of-saturated before w.at t small)) (from_true before w ws t small (o.0, o.1, o.2, refl) later))

numbers_are : (before : Option ℕ) (ws : List Word) → IsSmall before → AllByRecursion IsWord ws → Outcome before ws (numbers_of before ws)
numbers_are before [] small h = ([], tt, refl, refl)
numbers_are before (w ∷ ws) small h = from_word before w ws small (word_numbers w) (word_is w h.0) (λ k small'. numbers_are k ws small' h.1)

-- ---- the text

abbrev Represented : List ℕ → Result (NumberSet × Option ℕ) TextError → Type 0
Represented text r = MatchResult r (λ read. Represents text read.0 read.1) (λ fault. IsFirstError text fault)

from_numbers : (text : List ℕ) (r : Result (List WordNumbers) TextError) → Outcome None (words text) r → Represented text (r >>= (λ ns. Ok (pixels_of_words None ns, deepest_of ns)))
from_numbers text (Ok ns) o = record { numbers = o.0; read = o.1; set_is = o.2; moc_order_is = o.3 }
from_numbers text (Err f) o = record { good = o.good; numbers = o.numbers; bad = o.bad; others = o.others; parts = o.parts; before = o.read; fault = o.fault }

none_small : IsSmall None
none_small k e = absurd cc

represented : (text : List ℕ) → Represented text (reading_of text)
unfolding reading_of
represented text = from_numbers text (numbers_of None (words text)) (numbers_are None (words text) none_small (words_are text 0))

only_set : (text : List ℕ) (a : NumberSet) (k : Option ℕ) → Represents text a k → (r : Result (NumberSet × Option ℕ) TextError) → Represented text r → r ≡ Ok (a, k)
only_set text a k s (Ok x) o =
    let e = set_is_unique text x.0 a x.1 k o s in
    ap (λ (b : NumberSet). Ok (b, x.1)) e.0 ∙ ap (λ (j : Option ℕ). Ok (a, j)) e.1
only_set text a k s (Err f) o = absurd (value_excludes_error text a k f s o)

only_fault : (text : List ℕ) (f : TextError) → IsFirstError text f → (r : Result (NumberSet × Option ℕ) TextError) → Represented text r → r ≡ Err f
only_fault text f s (Ok x) o = absurd (value_excludes_error text x.0 x.1 f o s)
only_fault text f s (Err g) o = ap (λ (h : TextError). Err h) (first_error_is_unique text g f o s)

pub readings_are_unique : ReadingsAreUnique
readings_are_unique = record {
  represented = represented;
  only_set = λ text a k s. only_set text a k s (reading_of text) (represented text);
  only_fault = λ text f s. only_fault text f s (reading_of text) (represented text);
}

-- a set and order that the text represents is its reading
pub reading_is : (text : List ℕ) (a : NumberSet) (k : Option ℕ) → Represents text a k → IsReadingOf text (Ok (a, k))
reading_is text a k s = readings_are_unique.only_set text a k s

pub error_is_reading : (text : List ℕ) (e : TextError) → (e ≡ Memory) ⊎ IsFirstError text e → IsReadingOf text (Err e)
error_is_reading text e (inl m) = inl m
error_is_reading text e (inr f) = inr (readings_are_unique.only_fault text e f)

-- therefore the result of parsing is what the text represents
pub reading_matches_value : (text : List ℕ) (r : Result (NumberSet × Option ℕ) TextError) → IsReadingOf text r → (a : NumberSet) (k : Option ℕ) → Represents text a k → MatchResult r (λ x. (x.0 ≡ a) × (x.1 ≡ k)) (λ e. e ≡ Memory)
reading_matches_value text (Ok x) is a k s =
    let said : reading_of text ≡ Ok (a, k) = readings_are_unique.only_set text a k s in
    (cc, cc)
reading_matches_value text (Err e) (inl m) a k s = m
reading_matches_value text (Err e) (inr is) a k s =
    let said : reading_of text ≡ Ok (a, k) = readings_are_unique.only_set text a k s in
    absurd cc
