-- x and y of thirty digits in base 4, by five digits at a time.
use Rattle.std.proofs.Common.{◌≡◌, ℕ, suc, ◌+◌, ◌*◌, ◌/◌, ◌%◌, ◌<◌, refl, sym, ap, ◌∙◌, arith, map, get_or}
use Rattle.std.specs.Prelude.{bit_and}
use Rattle.std.specs.List.{range_with_len}
use Rattle.std.proofs.lemmas.List.FromFn.{get_or-map-range_with_len}
use Rattle.std.proofs.lemmas.Nat.{and_mask}
use Rattle.moc_sphere.specs.Faces.{x_of, y_of}
use Rattle.moc_sphere.specs.declared.bits.TheConstants.{FIVE_DIGITS}
use Rattle.moc_sphere.proofs.Places.{x_of-lt, y_of-lt, x_of-digits, y_of-digits}

-- x and y of five digits, in one number
pub places_of : ℕ → ℕ
places_of i = x_of 5 i + 4294967296 * y_of 5 i

table_is : FIVE_DIGITS ≡ map places_of (range_with_len 0 1024)
unfolding places_of x_of y_of
table_is = refl

x_last : (i : ℕ) → x_of 5 (i % 1024) ≡ x_of 5 i
x_last i = sym (x_of-digits 5 (i / 1024) (i % 1024)) ∙ ap (x_of 5) (omega arith)

y_last : (i : ℕ) → y_of 5 (i % 1024) ≡ y_of 5 i
y_last i = sym (y_of-digits 5 (i / 1024) (i % 1024)) ∙ ap (y_of 5) (omega arith)

-- the table entry of the last five digits, as the code reads it
pub looked_up : (i : ℕ) → get_or FIVE_DIGITS (bit_and i 1023) 0 ≡ x_of 5 i + 4294967296 * y_of 5 i
unfolding places_of
looked_up i =
    let at = i % 1024 in
    let small : at < 1024 = omega arith in
    ap (λ j. get_or FIVE_DIGITS j 0) (and_mask i 10)
    ∙ ap (λ l. get_or l at 0) table_is ∙ get_or-map-range_with_len places_of 0 1024 at at 0 small (omega arith)
    ∙ (λ t. x_last i t + 4294967296 * y_last i t)

x_more : (k i : ℕ) → x_of (suc (suc (suc (suc (suc k))))) i ≡ x_of 5 i + 32 * x_of k (i / 1024)
unfolding x_of
x_more k i =
    let deep : i / 4 / 4 / 4 / 4 / 4 ≡ i / 1024 = omega arith in
    let e = ap (x_of k) deep in
    omega (arith, e)

y_more : (k i : ℕ) → y_of (suc (suc (suc (suc (suc k))))) i ≡ y_of 5 i + 32 * y_of k (i / 1024)
unfolding y_of
y_more k i =
    let deep : i / 4 / 4 / 4 / 4 / 4 ≡ i / 1024 = omega arith in
    let e = ap (y_of k) deep in
    omega (arith, e)

-- x and y of fifteen digits, from three times five digits
x_fifteen : (s : ℕ) → x_of 15 s ≡ x_of 5 s + 32 * x_of 5 (s / 1024) + 1024 * x_of 5 (s / 1048576)
x_fifteen s =
    let e : s / 1024 / 1024 ≡ s / 1048576 = omega arith in
    omega (arith, x_more 10 s, x_more 5 (s / 1024) ∙ ap (λ n. x_of 5 (s / 1024) + 32 * x_of 5 n) e)

y_fifteen : (s : ℕ) → y_of 15 s ≡ y_of 5 s + 32 * y_of 5 (s / 1024) + 1024 * y_of 5 (s / 1048576)
y_fifteen s =
    let e : s / 1024 / 1024 ≡ s / 1048576 = omega arith in
    omega (arith, y_more 10 s, y_more 5 (s / 1024) ∙ ap (λ n. y_of 5 (s / 1024) + 32 * y_of 5 n) e)

pub fifteen_together : (s a b c : ℕ) → a ≡ x_of 5 s + 4294967296 * y_of 5 s → b ≡ x_of 5 (s / 1024) + 4294967296 * y_of 5 (s / 1024)
    → c ≡ x_of 5 (s / 1048576) + 4294967296 * y_of 5 (s / 1048576)
    → a + 32 * b + 1024 * c ≡ x_of 15 s + 4294967296 * y_of 15 s
fifteen_together s a b c first second third = omega (arith, x_fifteen s, y_fifteen s)

-- x and y of thirty digits, from two times fifteen digits
x_thirty : (s : ℕ) → x_of 30 s ≡ x_of 15 s + 32768 * x_of 15 (s / 1073741824)
x_thirty s =
    let e1 : s / 1024 / 1024 ≡ s / 1048576 = omega arith in
    let e2 : s / 1048576 / 1024 ≡ s / 1073741824 = omega arith in
    let a = x_more 25 s in
    let b = x_more 20 (s / 1024) ∙ ap (λ n. x_of 5 (s / 1024) + 32 * x_of 20 n) e1 in
    let c = x_more 15 (s / 1048576) ∙ ap (λ n. x_of 5 (s / 1048576) + 32 * x_of 15 n) e2 in
    omega (arith, a, b, c, x_fifteen s)

y_thirty : (s : ℕ) → y_of 30 s ≡ y_of 15 s + 32768 * y_of 15 (s / 1073741824)
y_thirty s =
    let e1 : s / 1024 / 1024 ≡ s / 1048576 = omega arith in
    let e2 : s / 1048576 / 1024 ≡ s / 1073741824 = omega arith in
    let a = y_more 25 s in
    let b = y_more 20 (s / 1024) ∙ ap (λ n. y_of 5 (s / 1024) + 32 * y_of 20 n) e1 in
    let c = y_more 15 (s / 1048576) ∙ ap (λ n. y_of 5 (s / 1048576) + 32 * y_of 15 n) e2 in
    omega (arith, a, b, c, y_fifteen s)

pub together : (s a b : ℕ) → a ≡ x_of 15 s + 4294967296 * y_of 15 s → b ≡ x_of 15 (s / 1073741824) + 4294967296 * y_of 15 (s / 1073741824)
    → a + 32768 * b ≡ x_of 30 s + 4294967296 * y_of 30 s
together s a b low high = omega (arith, x_thirty s, y_thirty s)

none_above : (s : ℕ) → s / 1073741824 ≡ 0 → x_of 15 (s / 1073741824) + 4294967296 * y_of 15 (s / 1073741824) ≡ 0
unfolding x_of y_of
none_above s none = ap (λ n. x_of 15 n + 4294967296 * y_of 15 n) none

pub fifteen_digits_suffice : (s a : ℕ) → s / 1073741824 ≡ 0 → a ≡ x_of 15 s + 4294967296 * y_of 15 s → a ≡ x_of 30 s + 4294967296 * y_of 30 s
fifteen_digits_suffice s a none low = omega (arith, together s a 0 low (sym (none_above s none)))

pub places_small : (i a : ℕ) → a ≡ x_of 5 i + 4294967296 * y_of 5 i → a < 137438953472
places_small i a is =
    let x = x_of-lt 5 i in
    let y = y_of-lt 5 i in
    omega arith
