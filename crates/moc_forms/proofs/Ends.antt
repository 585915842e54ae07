-- The bytes after the last one that passes a test, the bytes around a position, and the first line.
use Rattle.std.proofs.Common.{◌≡◌, ◌∙◌, ℕ, zero, suc, cond, ◌+◌, ◌-◌, ◌<◌, ◌≤◌, Bool, true, false, not, List, [], ◌∷◌, ◌++◌, length, take, drop, get_or, refl, ap, sym, arith, inl, inr}
use Rattle.std.specs.Prelude.{min}
use Rattle.std.specs.List.{after_last, before_first, onto_first, position_or_len, slice_split, suffix_len}
use Rattle.std.proofs.Math.Seq.{take-add}
use Rattle.std.proofs.lemmas.Bool.{cases_lt}
use Rattle.std.proofs.lemmas.List.{drop-drop, drop-take, drop_all, length-drop, length-take-le, take_all}
use Rattle.std.proofs.lemmas.List.Sums.{suffix_len-le-length, suffix_len-take_no, suffix_len-take_yes}
use Rattle.std.proofs.lemmas.List.Splits.{slice_split_first, slice_split-cons_no}
use Rattle.moc_text.specs.Lines.{is_line_feed, lines_of}

pub length_after_last : (p : ℕ → Bool) (xs : List ℕ) → length (after_last p xs) ≡ suffix_len (λ x. not (p x)) xs
length_after_last p xs = omega (arith, suffix_len-le-length (λ x. not (p x)) xs, length-drop (length xs - suffix_len (λ x. not (p x)) xs) xs)

-- one byte more, which passes the test
pub ended_here : (p : ℕ → Bool) (xs : List ℕ) (i d : ℕ) → i < length xs → p (get_or xs i d) ≡ true → length (after_last p (take (i + 1) xs)) ≡ 0
ended_here p xs i d low passes =
    let same : i + 1 - 1 ≡ i = omega arith in
    let no : not (p (get_or xs (i + 1 - 1) d)) ≡ false = ap (λ k. not (p (get_or xs k d))) same ∙ ap not passes in
    length_after_last p (take (i + 1) xs) ∙ suffix_len-take_no (λ x. not (p x)) xs (i + 1) d (omega arith) (omega arith) no

pub ended_before : (p : ℕ → Bool) (xs : List ℕ) (i d : ℕ) → i < length xs → p (get_or xs i d) ≡ false
    → length (after_last p (take (i + 1) xs)) ≡ length (after_last p (take i xs)) + 1
ended_before p xs i d low fails =
    let same : i + 1 - 1 ≡ i = omega arith in
    let yes : not (p (get_or xs (i + 1 - 1) d)) ≡ true = ap (λ k. not (p (get_or xs k d))) same ∙ ap not fails in
    let more : suffix_len (λ x. not (p x)) (take (i + 1) xs) ≡ 1 + suffix_len (λ x. not (p x)) (take (i + 1 - 1) xs) =
    suffix_len-take_yes (λ x. not (p x)) xs (i + 1) d (omega arith) (omega arith) yes in
    omega (arith, length_after_last p (take (i + 1) xs), length_after_last p (take i xs), more, ap (λ k. suffix_len (λ x. not (p x)) (take k xs)) same)

-- the bytes around a position inside a text
round_within : (p : ℕ → Bool) (text : List ℕ) (n k j : ℕ) → n ≤ length text → k ≡ length (after_last p (take n text)) → j ≡ position_or_len p (drop n text)
    → take (n + j - (n - k)) (drop (n - k) text) ≡ after_last p (take n text) ++ before_first p (drop n text)
round_within p text n k j within following before =
    let size : length (take n text) ≡ n = length-take-le n text within in
    let last : k ≡ suffix_len (λ x. not (p x)) (take n text) = following ∙ length_after_last p (take n text) in
    let less : k ≤ n = omega (arith, suffix_len-le-length (λ x. not (p x)) (take n text)) in
    let m = n - k in
    let whole : m + k ≡ n = omega arith in
    let both : n + j - m ≡ k + j = omega arith in
    let front : drop m (take n text) ≡ take k (drop m text) = ap (λ l. drop m (take l text)) (sym whole) ∙ drop-take m k text in
    let ends : drop m (take n text) ≡ after_last p (take n text) =
    ap (λ l. drop l (take n text)) (ap (λ l. n - l) last ∙ ap (λ l. l - suffix_len (λ x. not (p x)) (take n text)) (sym size)) in
    let back : drop k (drop m text) ≡ drop n text = drop-drop k m text ∙ ap (λ l. drop l text) whole in
    ap (λ l. take l (drop m text)) both ∙ take-add k j (drop m text)
    ∙ ap (λ l. l ++ take j (drop k (drop m text))) (sym front ∙ ends)
    ∙ ap (λ l. after_last p (take n text) ++ l) (ap (take j) back ∙ ap (λ l. take l (drop n text)) before)

pub split_at_last : (p : ℕ → Bool) (text : List ℕ) (at n k j : ℕ) → n ≡ min at (length text) → k ≡ length (after_last p (take n text)) → j ≡ position_or_len p (drop n text)
    → take (n + j - (n - k)) (drop (n - k) text) ≡ after_last p (take at text) ++ before_first p (drop at text)
split_at_last p text at n k j least following before =
    let within : n ≤ length text = omega arith in
    let here = round_within p text n k j within following before in
    elim (cases_lt at (length text)) [
      | inl low ↦
          let same : n ≡ at = omega arith in
          here ∙ ap (λ l. after_last p (take l text) ++ before_first p (drop l text)) same
      | inr high ↦
          let all : n ≡ length text = omega arith in
          here ∙ ap (λ l. after_last p l ++ before_first p (drop n text)) (take_all n text (omega arith) ∙ sym (take_all at text high))
          ∙ ap (λ l. after_last p (take at text) ++ before_first p l) (drop_all n text (omega arith) ∙ sym (drop_all at text high))
    ]

-- the first line
pub first_line : (bytes : List ℕ) → get_or (slice_split is_line_feed bytes) 0 [] ≡ before_first is_line_feed bytes
first_line bytes = elim (cases_lt (position_or_len is_line_feed bytes) (length bytes)) [
  | inl found ↦ ap (λ l. get_or l 0 []) (slice_split_first is_line_feed bytes 0 found)
  | inr none ↦ ap (λ l. get_or l 0 []) (unsplit bytes none) ∙ sym (take_all _ bytes none)
]
  where
    unsplit : (bytes : List ℕ) → length bytes ≤ position_or_len is_line_feed bytes → slice_split is_line_feed bytes ≡ bytes ∷ []
    unsplit [] none = refl
    unsplit (x ∷ bytes) none =
        let step : (b : Bool) → is_line_feed x ≡ b → slice_split is_line_feed (x ∷ bytes) ≡ (x ∷ bytes) ∷ [] =
        λ b. elim b as (λ v. is_line_feed x ≡ v → slice_split is_line_feed (x ∷ bytes) ≡ (x ∷ bytes) ∷ []) [
          | true ↦ λ is. let bad : suc (length bytes) ≤ 0 = rw is at none in absurd (omega arith)
          | false ↦ λ is. let within : suc (length bytes) ≤ 1 + position_or_len is_line_feed bytes = rw is at none in
              slice_split-cons_no is_line_feed x bytes is ∙ ap (onto_first x) (unsplit bytes (omega arith))
        ] in
        step (is_line_feed x) refl

-- a line of a text is a part of it between line feeds, and nothing follows the last one
pub same_line : (bytes : List ℕ) (n : ℕ) → get_or (lines_of bytes) n [] ≡ get_or (slice_split is_line_feed bytes) n []
same_line [] zero = refl
same_line [] (suc n) = refl
same_line (x ∷ bytes) n = elim (is_line_feed x) as (λ b. get_or (cond b ([] ∷ lines_of bytes) (onto_first x (lines_of bytes))) n [] ≡ get_or (cond b ([] ∷ slice_split is_line_feed bytes) (onto_first x (slice_split is_line_feed bytes))) n []) [
  | true ↦ following (same_line bytes) n
  | false ↦ onto (lines_of bytes) (slice_split is_line_feed bytes) (same_line bytes) n
]
  where
    following : ((n : ℕ) → get_or (lines_of bytes) n [] ≡ get_or (slice_split is_line_feed bytes) n [])
        → (n : ℕ) → get_or ([] ∷ lines_of bytes) n [] ≡ get_or ([] ∷ slice_split is_line_feed bytes) n []
    following same zero = refl
    following same (suc n) = same n

    onto : (xs ys : List (List ℕ)) → ((n : ℕ) → get_or xs n [] ≡ get_or ys n []) → (n : ℕ) → get_or (onto_first x xs) n [] ≡ get_or (onto_first x ys) n []
    onto [] [] same n = refl
    onto [] (y ∷ ys) same zero = ap (λ (l : List ℕ). x ∷ l) (same 0)
    onto [] (y ∷ ys) same (suc n) = same (suc n)
    onto (z ∷ xs) [] same zero = ap (λ (l : List ℕ). x ∷ l) (same 0)
    onto (z ∷ xs) [] same (suc n) = same (suc n)
    onto (z ∷ xs) (y ∷ ys) same zero = ap (λ (l : List ℕ). x ∷ l) (same 0)
    onto (z ∷ xs) (y ∷ ys) same (suc n) = same (suc n)
