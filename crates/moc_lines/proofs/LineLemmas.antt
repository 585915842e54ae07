-- The first line feed of a text, and the lines before and after it.
use Rattle.std.proofs.Common.{◌≡◌, ℕ, zero, suc, zero-add, ◌+◌, ◌-◌, ◌<◌, ◌≤◌, Bool, true, false, cond, List, [], ◌∷◌, ◌++◌, length, take, drop, refl, sym, ap, subst, ◌∙◌, arith, length-append, Some, None}
use Rattle.std.specs.Prelude.{slice_get}
use Rattle.std.specs.List.{count_by, position_or_len, before_first, after_first, onto_first}
use Rattle.std.proofs.lemmas.Bool.{eqb-true}
use Rattle.std.proofs.lemmas.List.{drop-take, drop-drop, take_all, drop_all}
use Rattle.std.proofs.lemmas.List.Sums.{sum_by-append, split_at_first, passes_at_first}
use Rattle.moc_text.specs.Lines.{is_line_feed, lines_of}
use Rattle.moc_lines.specs.Private.ReaderState.{HasNoLineFeed}

pub not_true : (b : Bool) → (b ≡ true → ⊥) → b ≡ false
not_true true h = absurd (h refl)
not_true false h = refl

-- a part of a part
pub take-drop-part : (xs : List ℕ) (i n k : ℕ) → k ≤ n → take (n - k) (drop (i + k) xs) ≡ drop k (take n (drop i xs))
take-drop-part xs i n k within =
    let whole : k + (n - k) ≡ n = omega arith in
    ap (take (n - k)) (sym (drop-drop k i xs)) ∙ sym (drop-take k (n - k) (drop i xs)) ∙ ap (λ m. drop k (take m (drop i xs))) whole

pub count-append : (a b : List ℕ) → count_by is_line_feed (a ++ b) ≡ count_by is_line_feed a + count_by is_line_feed b
count-append a b = sum_by-append (λ x. cond (is_line_feed x) 1 0) a b

pub count-cons : (x : ℕ) (xs : List ℕ) → count_by is_line_feed (x ∷ xs) ≡ cond (is_line_feed x) 1 0 + count_by is_line_feed xs
count-cons x xs = count-append (x ∷ []) xs ∙ ap (λ n. n + count_by is_line_feed xs) (zero-add (cond (is_line_feed x) 1 0))

before-cons : (x : ℕ) (xs : List ℕ) → is_line_feed x ≡ false → before_first is_line_feed (x ∷ xs) ≡ x ∷ before_first is_line_feed xs
before-cons x xs other =
    let n = position_or_len is_line_feed xs in
    let next : 1 + n ≡ suc n = omega arith in
    rw other (ap (λ k. take k (x ∷ xs)) next)

pub unbroken-head : (x : ℕ) (xs : List ℕ) → HasNoLineFeed (x ∷ xs) → is_line_feed x ≡ false
unbroken-head x xs unbroken = not_true (is_line_feed x) (λ is. absurd (omega (arith, sym (count-cons x xs) ∙ unbroken, ap {B = ℕ} (λ b. cond b 1 0) is)))

pub unbroken-tail : (x : ℕ) (xs : List ℕ) → HasNoLineFeed (x ∷ xs) → HasNoLineFeed xs
unbroken-tail x xs unbroken = omega (arith, sym (count-cons x xs) ∙ unbroken)

-- the bytes before the first line feed have none
pub HasNoLineFeed-before_first : (xs : List ℕ) → HasNoLineFeed (before_first is_line_feed xs)
HasNoLineFeed-before_first [] = refl
HasNoLineFeed-before_first (x ∷ xs) =
    let step : (b : Bool) → is_line_feed x ≡ b → HasNoLineFeed (before_first is_line_feed (x ∷ xs)) =
    λ b. elim b as (λ v. is_line_feed x ≡ v → HasNoLineFeed (before_first is_line_feed (x ∷ xs))) [
      | true ↦ λ is. rw is refl
      | false ↦ λ is. ap (count_by is_line_feed) (before-cons x xs is) ∙ count-cons x (before_first is_line_feed xs) ∙ rw is (zero-add (count_by is_line_feed (before_first is_line_feed xs)) ∙ HasNoLineFeed-before_first xs)
    ] in
    step (is_line_feed x) refl

-- a line feed separates what is before and after it
pub split_at_line_feed : (xs : List ℕ) → position_or_len is_line_feed xs < length xs → xs ≡ before_first is_line_feed xs ++ 10 ∷ after_first is_line_feed xs
split_at_line_feed xs found =
    split_at_first is_line_feed xs 0 found ∙ ap (λ b. before_first is_line_feed xs ++ b ∷ after_first is_line_feed xs) (eqb-true _ _ (passes_at_first is_line_feed xs 0 found))

pub before_first-none : (xs : List ℕ) → length xs ≤ position_or_len is_line_feed xs → before_first is_line_feed xs ≡ xs
before_first-none xs none = take_all _ xs none

pub after_first-none : (xs : List ℕ) → length xs ≤ position_or_len is_line_feed xs → after_first is_line_feed xs ≡ []
after_first-none xs none = drop_all _ xs (omega arith)

-- a line and its line feed before a text
pub lines_of-line : (line rest : List ℕ) → HasNoLineFeed line → lines_of (line ++ 10 ∷ rest) ≡ line ∷ lines_of rest
lines_of-line [] rest unbroken = refl
lines_of-line (x ∷ line) rest unbroken =
    let other = unbroken-head x line unbroken in
    rw other (ap (onto_first x) (lines_of-line line rest (unbroken-tail x line unbroken)))

-- bytes without a line feed are one line
pub lines_of-last : (line : List ℕ) → HasNoLineFeed line → 0 < length line → lines_of line ≡ line ∷ []
lines_of-last [] unbroken some = absurd (omega arith)
lines_of-last (x ∷ []) unbroken some = rw (unbroken-head x [] unbroken) refl
lines_of-last (x ∷ y ∷ line) unbroken some =
    rw (unbroken-head x (y ∷ line) unbroken) (ap (onto_first x) (lines_of-last (y ∷ line) (unbroken-tail x (y ∷ line) unbroken) (omega arith)))

-- bytes without a line feed are the start of the first line
lines_of-front : (line rest : List ℕ) → HasNoLineFeed line → 0 < length line
    → (tail : List ℕ) × (more : List (List ℕ)) × (lines_of (line ++ rest) ≡ (line ++ tail) ∷ more)
lines_of-front [] rest unbroken some = absurd (omega arith)
lines_of-front (x ∷ []) rest unbroken some =
    let other = unbroken-head x [] unbroken in
    let by : (lines : List (List ℕ)) → (tail : List ℕ) × (more : List (List ℕ)) × (onto_first x lines ≡ (x ∷ tail) ∷ more) =
    λ lines. elim lines as (λ l. (tail : List ℕ) × (more : List (List ℕ)) × (onto_first x l ≡ (x ∷ tail) ∷ more)) [
      | [] ↦ ([], [], refl)
      | part ∷ parts ↦ (part, parts, refl)
    ] in
    let found = by (lines_of rest) in
    (found.0, found.1, rw other found.2)
lines_of-front (x ∷ y ∷ line) rest unbroken some =
    let found = lines_of-front (y ∷ line) rest (unbroken-tail x (y ∷ line) unbroken) (omega arith) in
    let other = unbroken-head x (y ∷ line) unbroken in
    (found.0, found.1, rw other (ap (onto_first x) found.2))

-- bytes that are not empty have a line
pub some-lines : (bytes : List ℕ) → 0 < length bytes → 0 < length (lines_of bytes)
some-lines [] some = absurd (omega arith)
some-lines (x ∷ bytes) some =
    let onto : (lines : List (List ℕ)) → 0 < length (onto_first x lines) =
    λ lines. elim lines as (λ l. 0 < length (onto_first x l)) [
      | [] ↦ omega arith
      | part ∷ parts ↦ omega arith
    ] in
    elim (is_line_feed x) as (λ b. 0 < length (cond b ([] ∷ lines_of bytes) (onto_first x (lines_of bytes)))) [
      | true ↦ omega arith
      | false ↦ onto (lines_of bytes)
    ]

-- a byte before the first of some lines
onto-length : (x : ℕ) (lines : List (List ℕ)) → 0 < length lines → length (onto_first x lines) ≡ length lines
onto-length x [] some = absurd (omega arith)
onto-length x (part ∷ parts) some = refl

lines-one : (x : ℕ) (b : Bool) → is_line_feed x ≡ b → length (lines_of (x ∷ [])) ≡ count_by is_line_feed (x ∷ []) + cond (is_line_feed x) 0 1
lines-one x true is = rw is refl
lines-one x false is = rw is refl

lines-more : (x : ℕ) (bytes : List ℕ) (n : ℕ) (b : Bool) → is_line_feed x ≡ b → 0 < length (lines_of bytes) → length (lines_of bytes) ≡ count_by is_line_feed bytes + n
    → length (lines_of (x ∷ bytes)) ≡ count_by is_line_feed (x ∷ bytes) + n
lines-more x bytes n true is some later =
    let one : count_by is_line_feed (x ∷ []) ≡ 1 = rw is refl in
    let count : count_by is_line_feed (x ∷ bytes) ≡ count_by is_line_feed (x ∷ []) + count_by is_line_feed bytes = sum_by-append _ (x ∷ []) bytes in
    let lines : length (lines_of (x ∷ bytes)) ≡ suc (length (lines_of bytes)) = rw is refl in
    omega (arith, later, one, count, lines)
lines-more x bytes n false is some later =
    let one : count_by is_line_feed (x ∷ []) ≡ 0 = rw is refl in
    let count : count_by is_line_feed (x ∷ bytes) ≡ count_by is_line_feed (x ∷ []) + count_by is_line_feed bytes = sum_by-append _ (x ∷ []) bytes in
    let lines : length (lines_of (x ∷ bytes)) ≡ length (lines_of bytes) = rw is (onto-length x (lines_of bytes) some) in
    omega (arith, later, one, count, lines)

-- bytes have a line for each line feed, and one more if the last byte is not a line feed
lines-counted : (bytes : List ℕ) (k last : ℕ) → length bytes ≡ suc k → slice_get bytes k ≡ Some last
    → length (lines_of bytes) ≡ count_by is_line_feed bytes + cond (is_line_feed last) 0 1
lines-counted [] k last size here = absurd (omega (arith, size))
lines-counted (x ∷ []) (suc k) last size here = absurd (omega (arith, size))
lines-counted (x ∷ y ∷ rest) zero last size here = absurd (omega (arith, size))
lines-counted (x ∷ []) zero last size here =
    let is : x ≡ last = cc in
    subst (λ z. length (lines_of (x ∷ [])) ≡ count_by is_line_feed (x ∷ []) + cond (is_line_feed z) 0 1) is (lines-one x (is_line_feed x) refl)
lines-counted (x ∷ y ∷ rest) (suc k) last size here =
    lines-more x (y ∷ rest) (cond (is_line_feed last) 0 1) (is_line_feed x) refl (some-lines (y ∷ rest) (omega arith)) (lines-counted (y ∷ rest) k last (omega (arith, size)) here)

pub lines-after_last_feed : (bytes : List ℕ) (last : ℕ) → slice_get bytes (length bytes - 1) ≡ Some last
    → length (lines_of bytes) ≡ count_by is_line_feed bytes + cond (is_line_feed last) 0 1
lines-after_last_feed [] last here = cc
lines-after_last_feed (x ∷ bytes) last here =
    let following : length (x ∷ bytes) - 1 ≡ length bytes = omega arith in
    lines-counted (x ∷ bytes) (length bytes) last refl (sym (ap (slice_get (x ∷ bytes)) following) ∙ here)

pub no-lines : (bytes : List ℕ) → slice_get bytes (length bytes - 1) ≡ None → length (lines_of bytes) ≡ 0
no-lines [] none = refl
no-lines (x ∷ bytes) none =
    let following : length (x ∷ bytes) - 1 ≡ length bytes = omega arith in
    absurd (some_last bytes x (sym (ap (slice_get (x ∷ bytes)) following) ∙ none))
  where
    some_last : (bytes : List ℕ) (x : ℕ) → slice_get (x ∷ bytes) (length bytes) ≡ None → ⊥
    some_last [] x e = cc
    some_last (y ∷ bytes) x e = some_last bytes y e

-- a first line that is already over the limit
pub lines_of-long : (limit : ℕ) (line rest : List ℕ) → HasNoLineFeed line → limit < length line
    → (first : List ℕ) × (more : List (List ℕ)) × (lines_of (line ++ rest) ≡ first ∷ more) × (limit < length first)
lines_of-long limit line rest unbroken long =
    let found = lines_of-front line rest unbroken (omega arith) in
    (line ++ found.0, found.1, found.2, omega (arith, length-append line found.0))
