-- The position at which the bytes cannot continue a valid word.
use Rattle.std.proofs.Common.{◌≡◌, ℕ, ◌+◌, ◌-◌, ◌<◌, ◌≤◌, true, false, List, [], ◌∷◌, ◌++◌, length, refl, sym, ap, ◌∙◌, arith, length-append, inl, inr}
use Rattle.std.specs.List.{take_while}
use Rattle.std.proofs.lemmas.List.{append-nil}
use Rattle.std.proofs.lemmas.Bool.{cases_lt}
use Rattle.moc_text.specs.Ascii.{is_separator, IsValid, IsPrefix, HasShapeError}
use Rattle.moc_text.specs.Private.Scan.{is_end, unexpected_byte}
use Rattle.moc_text.specs.declared.ascii.error.TextError.TheVariants.{BadByte, Unfinished}
use Rattle.moc_text.proofs.Automaton.{State, Start, Dead, step, run, accepts, run-Dead, run-append, accepts_valid, dead_end}
use Rattle.moc_text.proofs.WordBoundaries.{is_word_byte, IsWordPart, no_separator, take_while-part, take_while-more, word_bytes}

-- A prefix p of a valid word that leads to the state st and cannot be continued with rest.
pub record InvalidWords (bytes p rest : List ℕ) (st : State) : Type 0 where
  pub parts : bytes ≡ p ++ rest
  pub begins : IsPrefix p
  pub leads : run Start p ≡ st
  pub unfinished : is_end rest ≡ true → accepts st ≡ false
  pub bad : (b : ℕ) (more : List ℕ) → rest ≡ b ∷ more → is_separator b ≡ false → step st b ≡ Dead

-- the part of a longer prefix after a shorter one
split_of_longer : (p q x y : List ℕ) (b : ℕ) → p ++ b ∷ x ≡ q ++ y → length p < length q → (z : List ℕ) × (q ≡ (p ++ b ∷ []) ++ z)
split_of_longer p [] x y b e lt = absurd (omega arith)
split_of_longer [] (c ∷ q) x y b e lt =
    let h : b ≡ c = cc in
    (q, ap (λ n. n ∷ q) (sym h))
split_of_longer (d ∷ p) (c ∷ q) x y b e lt =
    let h : d ≡ c = cc in
    let t : p ++ b ∷ x ≡ q ++ y = cc in
    let k = split_of_longer p q x y b t (omega arith) in
    (k.0, ap (λ n. n ∷ q) (sym h) ∙ ap (λ (r : List ℕ). d ∷ r) k.1)

-- if a byte leads to failure, no prefix is longer
pub longest_at_bad : (p q x y : List ℕ) (b : ℕ) → step (run Start p) b ≡ Dead → p ++ b ∷ x ≡ q ++ y → IsPrefix q → length q ≤ length p
longest_at_bad p q x y b dead e begins =
    elim (cases_lt (length p) (length q)) [
      | inl lt ↦
          let k = split_of_longer p q x y b e lt in
          let r : run Start q ≡ Dead = ap (run Start) k.1 ∙ run-append Start (p ++ b ∷ []) k.0 ∙ ap (λ s. run s k.0) (run-append Start p (b ∷ []) ∙ dead) ∙ run-Dead k.0 in
          absurd (dead_end q begins r)
      | inr le ↦ le
    ]

longest_at_end : (p q y : List ℕ) → p ≡ q ++ y → length q ≤ length p
longest_at_end p q y e = omega (arith, ap length e, length-append q y)

unexpected_end : (len : ℕ) (rest : List ℕ) → is_end rest ≡ true → unexpected_byte len rest ≡ Unfinished (len - length rest)
unfolding unexpected_byte
unexpected_end len rest h = rw h refl

byte_is_unexpected : (len b : ℕ) (rest : List ℕ) → is_separator b ≡ false → unexpected_byte len (b ∷ rest) ≡ BadByte (len - length (b ∷ rest))
unfolding unexpected_byte
byte_is_unexpected len b rest h = rw h refl

at_end : (len : ℕ) (bytes p rest : List ℕ) (st : State) → length bytes ≤ len → InvalidWords bytes p rest st → is_end rest ≡ true → HasShapeError (record { at = len - length bytes; bytes = take_while is_word_byte bytes }) (unexpected_byte len rest)
at_end len bytes p rest st le s ends =
    let part : IsWordPart p = no_separator Start p (dead_end p s.begins) in
    let w : take_while is_word_byte bytes ≡ p = ap (take_while is_word_byte) s.parts ∙ word_bytes p rest part ends in
    let place : len - length rest ≡ len - length bytes + length p = omega (arith, ap length s.parts, length-append p rest) in
    let f : unexpected_byte len rest ≡ Unfinished (len - length bytes + length p) = unexpected_end len rest ends ∙ ap (λ n. Unfinished n) place in
    let not_lawful : IsValid p → ⊥ = λ is_valid_shape. let no : false ≡ true = sym (s.unfinished ends) ∙ ap accepts (sym s.leads) ∙ accepts_valid p is_valid_shape in absurd cc in (
      p,
      [],
      record {
        parts = w ∙ sym (append-nil p);
        begins = s.begins;
        longest = λ q more e begins. longest_at_end p q more (sym w ∙ e);
      },
      (not_lawful, f),
    )

at_byte : (len : ℕ) (bytes p : List ℕ) (b : ℕ) (more : List ℕ) (st : State) → length bytes ≤ len → InvalidWords bytes p (b ∷ more) st → is_separator b ≡ false → HasShapeError (record { at = len - length bytes; bytes = take_while is_word_byte bytes }) (unexpected_byte len (b ∷ more))
at_byte len bytes p b more st le s h =
    let part : IsWordPart p = no_separator Start p (dead_end p s.begins) in
    let w : take_while is_word_byte bytes ≡ p ++ b ∷ take_while is_word_byte more = ap (take_while is_word_byte) s.parts ∙ take_while-part p (b ∷ more) part ∙ ap (λ (r : List ℕ). p ++ r) (take_while-more b more h) in
    let place : len - length (b ∷ more) ≡ len - length bytes + length p = omega (arith, ap length s.parts, length-append p (b ∷ more)) in
    let f : unexpected_byte len (b ∷ more) ≡ BadByte (len - length bytes + length p) = byte_is_unexpected len b more h ∙ ap (λ n. BadByte n) place in
    let dead : step (run Start p) b ≡ Dead = ap (λ t. step t b) s.leads ∙ s.bad b more refl h in (
      p,
      b ∷ take_while is_word_byte more,
      record {
        parts = w;
        begins = s.begins;
        longest = λ q rest e begins. longest_at_bad p q (take_while is_word_byte more) rest b dead (sym w ∙ e) begins;
      },
      f,
    )

-- the error of the first word
pub shape_error_at_stop : (len : ℕ) (bytes p rest : List ℕ) (st : State) → length bytes ≤ len → InvalidWords bytes p rest st → HasShapeError (record { at = len - length bytes; bytes = take_while is_word_byte bytes }) (unexpected_byte len rest)
shape_error_at_stop len bytes p [] st le s = at_end len bytes p [] st le s refl
shape_error_at_stop len bytes p (b ∷ more) st le s =
    elim (is_separator b) as (λ v. is_separator b ≡ v → HasShapeError (record { at = len - length bytes; bytes = take_while is_word_byte bytes }) (unexpected_byte len (b ∷ more))) [
      | true ↦ λ e. at_end len bytes p (b ∷ more) st le s e
      | false ↦ λ e. at_byte len bytes p b more st le s e
    ] refl
