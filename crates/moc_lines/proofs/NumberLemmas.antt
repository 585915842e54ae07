-- The number of a field.
use Rattle.std.proofs.Common.{◌≡◌, ℕ, ◌+◌, ◌-◌, ◌*◌, ◌^◌, ◌<◌, ◌≤◌, lit<, Bool, true, false, cond, leb, leb-true, ltb}
use Rattle.std.proofs.Common.{◌&&◌, List, [], ◌∷◌, get_or, take, drop, length, min, Some, None, refl, sym, ap, ◌∙◌}
use Rattle.std.proofs.Common.{arith}
use Rattle.std.specs.Char.{is_ascii_digit, digit_value}
use Rattle.std.specs.Int.{IsInRange}
use Rattle.std.specs.List.{list_all, position_or_len, before_first}
use Rattle.std.specs.Str.Parse.{digits_value}
use Rattle.std.proofs.lemmas.Int.Digits.{digits_value_more}
use Rattle.std.proofs.lemmas.List.Folds.{list_all_at, list_all_more}
use Rattle.std.proofs.lemmas.Bool.{ltb-true}
use Rattle.std.proofs.lemmas.Bool.Decides.{nat_tests}
use Rattle.std.proofs.lemmas.List.{take_all, drop_all}
use Rattle.std.proofs.lemmas.Str.{digit_value_digit}
use Rattle.std.proofs.Math.Nat.{pow-le-pow_right}
use Rattle.std.proofs.lemmas.Nat.{pow-add}
use Rattle.moc_lines.specs.Language.{decimal_value, is_line_blank, word_of, after_word, without_blanks}

both_true : (a b : Bool) → a && b ≡ true → (a ≡ true) × (b ≡ true)
both_true true b h = (refl, h)
both_true false b h = cc

is_digit : (d : ℕ) → is_ascii_digit d ≡ true → IsInRange 48 57 d
is_digit d h =
    let p = both_true (leb 48 d) (leb d 57) h in
    (leb-true 48 d p.0, leb-true d 57 p.1)

-- a field with another byte is not a number
pub decimal_value-other : (field : List ℕ) (i d : ℕ) → i < length field → is_ascii_digit (get_or field i d) ≡ false → decimal_value field ≡ None
decimal_value-other field i d inside other =
    let no : list_all is_ascii_digit field ≡ false = list_all_at is_ascii_digit field i d inside other in
    let none : (b : Bool) → b && false ≡ false = λ b. elim b as (λ v. v && false ≡ false) [ true ↦ refl | false ↦ refl ] in
    ap (λ b. cond (ltb 0 (length field) && b) (Some (digits_value 10 field)) None) no
    ∙ ap (λ b. cond b (Some (digits_value 10 field)) None) (none (ltb 0 (length field)))

-- one more digit, saturated
saturated_step : (top v d x : ℕ) → x ≡ d - 48 → min (min (min v top * 10) top + (d - 48)) top ≡ min (v * 10 + x) top
saturated_step top v d x e = omega arith

pub value-more : (top : ℕ) (field : List ℕ) (i value : ℕ) → i < length field → is_ascii_digit (get_or field i 0) ≡ true → value ≡ min (digits_value 10 (take i field)) top
    → min (min (value * 10) top + (get_or field i 0 - 48)) top ≡ min (digits_value 10 (take (i + 1) field)) top
value-more top field i value inside digit is =
    let d = get_or field i 0 in
    let e : digit_value d ≡ d - 48 = omega (arith, digit_value_digit d (is_digit d digit)) in
    ap (λ v. min (min (v * 10) top + (d - 48)) top) is ∙ saturated_step top (digits_value 10 (take i field)) d (digit_value d) e
    ∙ ap (λ n. min n top) (sym (digits_value_more 10 field i inside))

pub digits-more : (field : List ℕ) (i : ℕ) → i < length field → is_ascii_digit (get_or field i 0) ≡ true → list_all is_ascii_digit (take i field) ≡ true
    → list_all is_ascii_digit (take (i + 1) field) ≡ true
digits-more field i inside digit before =
    list_all_more is_ascii_digit field i 0 inside ∙ ap (λ b. b && is_ascii_digit (get_or field i 0)) before ∙ digit

-- a number of at most 18 digits and one more fits into 64 bits
pub short-fits : (value d i : ℕ) → value < 10 ^ i → i < 19 → is_ascii_digit d ≡ true → value * 10 + (d - 48) < 2 ^ 64
short-fits value d i small short digit =
    let few : i ≤ 18 = omega arith in
    let most : 10 ^ i ≤ 10 ^ 18 = pow-le-pow_right (lit< tt) few in
    omega (arith, small, most, is_digit d digit)

-- one more digit
pub short-more : (field : List ℕ) (i value : ℕ) → i < length field → is_ascii_digit (get_or field i 0) ≡ true → value ≡ digits_value 10 (take i field) → value < 10 ^ i
    → (value * 10 + (get_or field i 0 - 48) ≡ digits_value 10 (take (i + 1) field)) × (value * 10 + (get_or field i 0 - 48) < 10 ^ (i + 1))
short-more field i value inside digit is small =
    let d = get_or field i 0 in
    let range = is_digit d digit in
    let e : digit_value d ≡ d - 48 = omega (arith, digit_value_digit d range) in
    let next : 10 ^ (i + 1) ≡ 10 ^ i * 10 = pow-add 10 i 1 in (
      ap (λ v. v * 10 + (d - 48)) is ∙ ap (λ x. digits_value 10 (take i field) * 10 + x) (sym e) ∙ sym (digits_value_more 10 field i inside),
      omega (arith, small, next, range),
    )

-- a digit is not a blank
digit-no-blank : (d : ℕ) → is_ascii_digit d ≡ true → is_line_blank d ≡ false
digit-no-blank d digit =
    let range : (48 ≤ d) × (d ≤ 57) = is_digit d digit in
    grind (arith, nat_tests, range)

-- digits have no blank
digits-no-blank : (line : List ℕ) → list_all is_ascii_digit line ≡ true → position_or_len is_line_blank line ≡ length line
digits-no-blank [] all = refl
digits-no-blank (x ∷ line) all =
    let parts = both_true (is_ascii_digit x) (list_all is_ascii_digit line) all in
    rw (digit-no-blank x parts.0) (omega (arith, digits-no-blank line parts.1))

-- a line of digits is its own first word, and nothing follows
word-plain : (line : List ℕ) → 0 < length line → list_all is_ascii_digit line ≡ true → (word_of line ≡ line) × (after_word line ≡ [])
word-plain [] some all = absurd (omega arith)
word-plain (x ∷ line) some all =
    let parts = both_true (is_ascii_digit x) (list_all is_ascii_digit line) all in
    let other = digit-no-blank x parts.0 in
    let front : without_blanks (x ∷ line) ≡ x ∷ line = rw other refl in
    let word : word_of (x ∷ line) ≡ x ∷ line =
    ap (before_first is_line_blank) front ∙ take_all (position_or_len is_line_blank (x ∷ line)) (x ∷ line) (omega (arith, digits-no-blank (x ∷ line) all)) in
    (word, ap (λ w. drop (length w) (without_blanks (x ∷ line))) word ∙ ap (drop (length (x ∷ line))) front ∙ drop_all (length (x ∷ line)) (x ∷ line) (omega arith))

-- a field with a number consists of digits
both_conditions_of_some : (b c : Bool) (n v : ℕ) → Some n ≡ cond (b && c) (Some v) None → (b ≡ true) × (c ≡ true)
both_conditions_of_some true true n v is = (refl, refl)
both_conditions_of_some true false n v is = cc
both_conditions_of_some false c n v is = cc

-- a line with a number is one word
pub word-alone : (line : List ℕ) (n : ℕ) → Some n ≡ decimal_value line → (word_of line ≡ line) × (after_word line ≡ [])
word-alone line n is =
    let digits = both_conditions_of_some (ltb 0 (length line)) (list_all is_ascii_digit line) n (digits_value 10 line) is in
    word-plain line (ltb-true 0 (length line) digits.0) digits.1
