-- The positions at which the words of a text begin and end.
use Rattle.std.proofs.Common.{◌≡◌, ℕ, ◌+◌, ◌<◌, ◌≤◌, Bool, true, false, cond, not, ◌&&◌, eqb, List, [], ◌∷◌, ◌++◌, length, refl, sym, ap, subst, ◌∙◌, arith, length-append}
use Rattle.std.specs.List.{list_all, take_while, AllByRecursion}
use Rattle.std.proofs.lemmas.List.{append-nil}
use Rattle.std.proofs.lemmas.List.Sums.{take_while-cons}
use Rattle.std.proofs.lemmas.Bool.{eq-eqb, ne_eqb}
use Rattle.moc_text.specs.Ascii.{is_separator, Word, prepend_to_words, words_from}
use Rattle.moc_text.specs.Private.Scan.{is_end}
use Rattle.moc_text.proofs.Automaton.{State, Dead, step, run, run-Dead, both_true, step-separator}

abbrev pub is_word_byte : ℕ → Bool
is_word_byte b = not (is_separator b)

abbrev pub IsWordPart : List ℕ → Type 0
IsWordPart p = list_all is_word_byte p ≡ true

-- bytes on which the automaton does not fail have no separator
pub no_separator : (st : State) (p : List ℕ) → (run st p ≡ Dead → ⊥) → IsWordPart p
no_separator st [] alive = refl
no_separator st (b ∷ p) alive =
    let rest : IsWordPart p = no_separator (step st b) p alive in
    elim (is_separator b) as (λ v. is_separator b ≡ v → (not v && list_all is_word_byte p) ≡ true) [
      | true ↦ λ e. absurd (alive (ap (λ s. run s p) (step-separator st b e) ∙ run-Dead p))
      | false ↦ λ e. rest
    ] refl

pub take_while-part : (p rest : List ℕ) → IsWordPart p → take_while is_word_byte (p ++ rest) ≡ p ++ take_while is_word_byte rest
take_while-part [] rest h = refl
take_while-part (b ∷ p) rest h =
    let k = both_true (is_word_byte b) (list_all is_word_byte p) h in
    take_while-cons is_word_byte b (p ++ rest) ∙ ap (λ v. cond v (b ∷ take_while is_word_byte (p ++ rest)) []) k.0 ∙ ap (λ (r : List ℕ). b ∷ r) (take_while-part p rest k.1)

pub take_while-end : (rest : List ℕ) → is_end rest ≡ true → take_while is_word_byte rest ≡ []
take_while-end [] h = refl
take_while-end (b ∷ rest) h = take_while-cons is_word_byte b rest ∙ ap (λ v. cond (not v) (b ∷ take_while is_word_byte rest) []) h

pub take_while-more : (b : ℕ) (rest : List ℕ) → is_separator b ≡ false → take_while is_word_byte (b ∷ rest) ≡ b ∷ take_while is_word_byte rest
take_while-more b rest h = take_while-cons is_word_byte b rest ∙ ap (λ v. cond (not v) (b ∷ take_while is_word_byte rest) []) h

not_true : (v : Bool) → not v ≡ true → v ≡ false
not_true true h = absurd cc
not_true false h = refl

-- the bytes of the first word, up to its end
pub word_bytes : (p rest : List ℕ) → IsWordPart p → is_end rest ≡ true → take_while is_word_byte (p ++ rest) ≡ p
word_bytes p rest h ends = take_while-part p rest h ∙ ap (λ (r : List ℕ). p ++ r) (take_while-end rest ends) ∙ append-nil p

-- ---- the first word, and the bytes after it

abbrev pub after_word_bytes : List ℕ → List ℕ
after_word_bytes [] = []
after_word_bytes (b ∷ bytes) = cond (is_separator b) (b ∷ bytes) (after_word_bytes bytes)

front_split : (bytes : List ℕ) → take_while is_word_byte bytes ++ after_word_bytes bytes ≡ bytes
front_split [] = refl
front_split (b ∷ bytes) =
    ap (λ (r : List ℕ). r ++ after_word_bytes (b ∷ bytes)) (take_while-cons is_word_byte b bytes)
    ∙ elim (is_separator b) as (λ v. cond (not v) (b ∷ take_while is_word_byte bytes) [] ++ cond v (b ∷ bytes) (after_word_bytes bytes) ≡ b ∷ bytes) [
      | true ↦ refl
      | false ↦ ap (λ (r : List ℕ). b ∷ r) (front_split bytes)
    ]

past_end : (bytes : List ℕ) → is_end (after_word_bytes bytes) ≡ true
past_end [] = refl
past_end (b ∷ bytes) = elim (is_separator b) as (λ v. is_separator b ≡ v → is_end (cond v (b ∷ bytes) (after_word_bytes bytes)) ≡ true) [
  | true ↦ λ e. e
  | false ↦ λ e. past_end bytes
] refl

pub front_is_word_part : (bytes : List ℕ) → IsWordPart (take_while is_word_byte bytes)
front_is_word_part [] = refl
front_is_word_part (b ∷ bytes) =
    subst IsWordPart (sym (take_while-cons is_word_byte b bytes)) (elim (is_word_byte b) as (λ v. is_word_byte b ≡ v → IsWordPart (cond v (b ∷ take_while is_word_byte bytes) [])) [
      | true ↦ λ e. rw e (front_is_word_part bytes)
      | false ↦ λ e. refl
    ] refl)

-- ---- where words begin

-- no word begins before an offset
abbrev StartFrom : ℕ → List Word → Type 0
StartFrom at [] = Unit {0}
StartFrom at (w ∷ ws) = at ≤ w.at

start_later : (m n : ℕ) (ws : List Word) → m ≤ n → StartFrom n ws → StartFrom m ws
start_later m n [] le h = tt
start_later m n (w ∷ ws) le h = omega arith

prepend_to_words-starts : (at b : ℕ) (ws : List Word) → StartFrom at (prepend_to_words at b ws)
prepend_to_words-starts at b [] = omega arith
prepend_to_words-starts at b (w ∷ ws) = elim (eqb w.at (at + 1)) as (λ v. StartFrom at (cond v (record { at = at; bytes = b ∷ w.bytes } ∷ ws) (record { at = at; bytes = b ∷ [] } ∷ w ∷ ws))) [
  | true ↦ omega arith
  | false ↦ omega arith
]

words_start : (text : List ℕ) (at : ℕ) → StartFrom at (words_from at text)
words_start [] at = tt
words_start (b ∷ bytes) at = elim (is_separator b) as (λ v. StartFrom at (cond v (words_from (at + 1) bytes) (prepend_to_words at b (words_from (at + 1) bytes)))) [
  | true ↦ start_later at (at + 1) (words_from (at + 1) bytes) (omega arith) (words_start bytes (at + 1))
  | false ↦ prepend_to_words-starts at b (words_from (at + 1) bytes)
]

-- a byte before words that do not begin directly after it
prepend_new_word : (at b : ℕ) (ws : List Word) → StartFrom (at + 2) ws → prepend_to_words at b ws ≡ record { at = at; bytes = b ∷ [] } ∷ ws
prepend_new_word at b [] h = refl
prepend_new_word at b (w ∷ ws) h = rw (ne_eqb w.at (at + 1) (λ e. omega (arith, h, e))) refl

pub words_skip : (b : ℕ) (rest : List ℕ) (at : ℕ) → is_separator b ≡ true → words_from at (b ∷ rest) ≡ words_from (at + 1) rest
words_skip b rest at h = rw h refl

words_after_separator : (rest : List ℕ) (at : ℕ) → is_end rest ≡ true → StartFrom (at + 1) (words_from at rest)
words_after_separator [] at h = tt
words_after_separator (b ∷ rest) at h = subst (StartFrom (at + 1)) (sym (words_skip b rest at h)) (words_start rest (at + 1))

prepend_to_first_word : (at b : ℕ) (bytes : List ℕ) (ws : List Word) → prepend_to_words at b (record { at = at + 1; bytes = bytes } ∷ ws) ≡ record { at = at; bytes = b ∷ bytes } ∷ ws
prepend_to_first_word at b bytes ws = rw (eq-eqb (at + 1) (at + 1) refl) refl

words_after_prepend : (b : ℕ) (rest : List ℕ) (at : ℕ) → is_separator b ≡ false → words_from at (b ∷ rest) ≡ prepend_to_words at b (words_from (at + 1) rest)
words_after_prepend b rest at h = rw h refl

-- a complete first word
pub words_front : (p rest : List ℕ) (at : ℕ) → 0 < length p → IsWordPart p → is_end rest ≡ true → words_from at (p ++ rest) ≡ record { at = at; bytes = p } ∷ words_from (at + length p) rest
words_front [] rest at some h ends = absurd (omega arith)
words_front (b ∷ []) rest at some h ends =
    let k = both_true (is_word_byte b) true h in
    let apart : StartFrom (at + 2) (words_from (at + 1) rest) = let two : at + 1 + 1 ≡ at + 2 = omega arith in subst (λ n. StartFrom n (words_from (at + 1) rest)) two (words_after_separator rest (at + 1) ends) in
    words_after_prepend b rest at (not_true (is_separator b) k.0) ∙ prepend_new_word at b (words_from (at + 1) rest) apart
words_front (b ∷ c ∷ p) rest at some h ends =
    let k = both_true (is_word_byte b) (list_all is_word_byte (c ∷ p)) h in
    let place : at + 1 + length (c ∷ p) ≡ at + length (b ∷ c ∷ p) = omega arith in
    words_after_prepend b ((c ∷ p) ++ rest) at (not_true (is_separator b) k.0)
    ∙ ap (prepend_to_words at b) (words_front (c ∷ p) rest (at + 1) (omega arith) k.1 ends)
    ∙ prepend_to_first_word at b (c ∷ p) (words_from (at + 1 + length (c ∷ p)) rest)
    ∙ ap (λ n. record { at = at; bytes = b ∷ c ∷ p } ∷ words_from n rest) place

-- a word begins at a byte that is not a separator
pub words_begin : (b : ℕ) (rest : List ℕ) (at : ℕ) → is_separator b ≡ false → words_from at (b ∷ rest) ≡ record { at = at; bytes = take_while is_word_byte (b ∷ rest) } ∷ words_from (at + length (take_while is_word_byte (b ∷ rest))) (after_word_bytes (b ∷ rest))
words_begin b rest at h =
    ap (words_from at) (sym (front_split (b ∷ rest)))
    ∙ words_front (take_while is_word_byte (b ∷ rest)) (after_word_bytes (b ∷ rest)) at (omega (arith, ap length (take_while-more b rest h))) (front_is_word_part (b ∷ rest)) (past_end (b ∷ rest))

-- ---- words before and after a separator

prepend_before : (at b : ℕ) (ws vs : List Word) → StartFrom (at + 2) vs → prepend_to_words at b (ws ++ vs) ≡ prepend_to_words at b ws ++ vs
prepend_before at b [] vs h = prepend_new_word at b vs h
prepend_before at b (w ∷ ws) vs h = elim (eqb w.at (at + 1)) as (λ v. cond v (record { at = at; bytes = b ∷ w.bytes } ∷ (ws ++ vs)) (record { at = at; bytes = b ∷ [] } ∷ w ∷ (ws ++ vs)) ≡ cond v (record { at = at; bytes = b ∷ w.bytes } ∷ ws) (record { at = at; bytes = b ∷ [] } ∷ w ∷ ws) ++ vs) [
  | true ↦ refl
  | false ↦ refl
]

pub words_around : (front : List ℕ) (b : ℕ) (rest : List ℕ) (at : ℕ) → is_separator b ≡ true → words_from at ((front ++ b ∷ []) ++ rest) ≡ words_from at (front ++ b ∷ []) ++ words_from (at + length (front ++ b ∷ [])) rest
words_around [] b rest at h = words_skip b rest at h ∙ ap (λ (ws : List Word). ws ++ words_from (at + 1) rest) (sym (words_skip b [] at h))
words_around (c ∷ front) b rest at h =
    let n = at + length (c ∷ front ++ b ∷ []) in
    let place : at + 1 + length (front ++ b ∷ []) ≡ n = omega arith in
    let more : words_from (at + 1) ((front ++ b ∷ []) ++ rest) ≡ words_from (at + 1) (front ++ b ∷ []) ++ words_from n rest =
    words_around front b rest (at + 1) h ∙ ap (λ m. words_from (at + 1) (front ++ b ∷ []) ++ words_from m rest) place in
    elim (is_separator c) as (λ v. cond v (words_from (at + 1) ((front ++ b ∷ []) ++ rest)) (prepend_to_words at c (words_from (at + 1) ((front ++ b ∷ []) ++ rest))) ≡ cond v (words_from (at + 1) (front ++ b ∷ [])) (prepend_to_words at c (words_from (at + 1) (front ++ b ∷ []))) ++ words_from n rest) [
      | true ↦ more
      | false ↦ ap (prepend_to_words at c) more
          ∙ prepend_before at c (words_from (at + 1) (front ++ b ∷ [])) (words_from n rest) (start_later (at + 2) n (words_from n rest) (omega (arith, length-append front (b ∷ []))) (words_start rest n))
    ]

-- ---- properties of words

-- one or more bytes without a separator
abbrev pub IsWord : Word → Type 0
IsWord w = (0 < length w.bytes) × IsWordPart w.bytes

prepend_to_words-are : (at b : ℕ) (ws : List Word) → is_separator b ≡ false → AllByRecursion IsWord ws → AllByRecursion IsWord (prepend_to_words at b ws)
prepend_to_words-are at b [] e h = ((omega arith, rw e refl), tt)
prepend_to_words-are at b (w ∷ ws) e h = elim (eqb w.at (at + 1)) as (λ v. AllByRecursion IsWord (cond v (record { at = at; bytes = b ∷ w.bytes } ∷ ws) (record { at = at; bytes = b ∷ [] } ∷ w ∷ ws))) [
  | true ↦ ((omega arith, rw e (h.0).1), h.1)
  | false ↦ ((omega arith, rw e refl), h)
]

pub words_are : (text : List ℕ) (at : ℕ) → AllByRecursion IsWord (words_from at text)
words_are [] at = tt
words_are (b ∷ bytes) at = elim (is_separator b) as (λ v. is_separator b ≡ v → AllByRecursion IsWord (cond v (words_from (at + 1) bytes) (prepend_to_words at b (words_from (at + 1) bytes)))) [
  | true ↦ λ e. words_are bytes (at + 1)
  | false ↦ λ e. prepend_to_words-are at b (words_from (at + 1) bytes) e (words_are bytes (at + 1))
] refl
