-- The cells of one order of a set are, range by range, those that are inside the range while their parent is not.
use Rattle.std.proofs.Common.{◌≡◌, ℕ, zero, suc, ◌+◌, ◌-◌, ◌*◌, ◌/◌, ◌^◌, ◌<◌, ◌≤◌, Bool, true, false, cond, not, ◌&&◌}
use Rattle.std.proofs.Common.{◌||◌, List, [], ◌∷◌, ◌++◌, map, refl, sym, ap, ◌∙◌, inl, inr, arith}
use Rattle.std.specs.Prelude.{nat_eq, nat_le, nat_lt}
use Rattle.std.specs.FinSet as set
use Rattle.std.specs.Cmp.{nat_cmp_total}
use Rattle.std.specs.List.{filter, range_with_len, list_any}
use Rattle.std.proofs.lemmas.Bool.{cases_Bool, cases_lt, and_parts, and_from, and_left, or_from, or_parts, or_cases}
use Rattle.std.proofs.lemmas.Bool.{or_left, or_right, lt-ltb, ltb-true, le-leb, lt-leb, leb-true, ne_eqb, eqb-true}
use Rattle.std.proofs.lemmas.Bool.{false≢true, false_from_ne_true}
use Rattle.std.proofs.lemmas.Bool.Decides.{nat_tests}
use Rattle.std.proofs.lemmas.List.{map-append}
use Rattle.std.proofs.lemmas.List.FromFn.{map-range_with_len_more}
use Rattle.std.proofs.lemmas.Nat.{div_below, le-div, div-add-mod', mod_below}
use Rattle.std.proofs.Math.Nat.{mul-le-mul_right, div-mul-le_self, pow-succ', pow-le-pow_right}
use Rattle.moc_sphere.specs.CellNumber.{cell_number, cell_count, cell_size}
use Rattle.moc_sphere.specs.Lemmas.{cell_size-positive, cell_size-fills}
use Rattle.moc_blocks.specs.RangeList.{pixel_count, set_of, IsNormal, BeginsAfter}
use Rattle.moc_blocks.specs.Lemmas.Members.{contains-set_of, in_ranges}
use Rattle.moc_ranges.specs.Lemmas.Members.{contains-span, same_truth}
use Rattle.moc_ranges.specs.Lemmas.Ranges.{IsInsideOne, inside_one}
use Rattle.moc_ranges.specs.Cells.{cells_of_range, span, is_cell_of}
use Rattle.moc_ranges.specs.Lemmas.Cells.{in_span, four_parts, in_cell_range}
use Rattle.moc_ranges.specs.Private.CellRuns.{cells_at, AreInnerCells}

-- ---- filters of consecutive numbers

pub filter-map : {X Y : Type 0} (p : Y → Bool) (f : X → Y) (xs : List X) → filter p (map f xs) ≡ map f (filter (λ x. p (f x)) xs)
filter-map p f [] = refl
filter-map p f (x ∷ xs) = elim (p (f x)) as (λ b. cond b (f x ∷ filter p (map f xs)) (filter p (map f xs)) ≡ map f (cond b (x ∷ filter (λ x. p (f x)) xs) (filter (λ x. p (f x)) xs))) [
  | true ↦ ap (λ l. f x ∷ l) (filter-map p f xs)
  | false ↦ filter-map p f xs
]

filter_skips_first : (p : ℕ → Bool) (from n : ℕ) → p from ≡ false → filter p (range_with_len from (suc n)) ≡ filter p (range_with_len (from + 1) n)
filter_skips_first p from n lacks = ap (λ b. cond b (from ∷ filter p (range_with_len (from + 1) n)) (filter p (range_with_len (from + 1) n))) lacks

filter_takes_first : (p : ℕ → Bool) (from n : ℕ) → p from ≡ true → filter p (range_with_len from (suc n)) ≡ from ∷ filter p (range_with_len (from + 1) n)
filter_takes_first p from n has = ap (λ b. cond b (from ∷ filter p (range_with_len (from + 1) n)) (filter p (range_with_len (from + 1) n))) has

pub filter_none : (p : ℕ → Bool) (from n : ℕ) → ((i : ℕ) → from ≤ i → i < from + n → p i ≡ false) → filter p (range_with_len from n) ≡ []
filter_none p from zero none = refl
filter_none p from (suc n) none = filter_skips_first p from n (none from (omega arith) (omega arith)) ∙ filter_none p (from + 1) n (λ i low high. none i (omega arith) (omega arith))

filter_same : (p q : ℕ → Bool) (from n : ℕ) → ((i : ℕ) → from ≤ i → i < from + n → p i ≡ q i) → filter p (range_with_len from n) ≡ filter q (range_with_len from n)
filter_same p q from zero same = refl
filter_same p q from (suc n) same = λ k. cond (same from (omega arith) (omega arith) k) (from ∷ filter_same p q (from + 1) n (λ i low high. same i (omega arith) (omega arith)) k) (filter_same p q (from + 1) n (λ i low high. same i (omega arith) (omega arith)) k)

-- a filter that keeps exactly the numbers from `low` up to `high`
pub filter_run : (p : ℕ → Bool) (low high from n : ℕ) → from ≤ low → high ≤ from + n → ((i : ℕ) → from ≤ i → i < from + n → p i ≡ (nat_le low i && nat_lt i high)) → filter p (range_with_len from n) ≡ range_with_len low (high - low)
filter_run p low high from zero begins ends is = let none : high - low ≡ 0 = omega arith in ap (range_with_len low) (sym none)
filter_run p low high from (suc n) begins ends is = elim (cases_lt from low) [
  | inl before ↦
      filter_skips_first p from n (is from (omega arith) (omega arith) ∙ too_low low high from before)
      ∙ filter_run p low high (from + 1) n (omega arith) (omega arith) (λ i above lt. is i (omega arith) (omega arith))
  | inr here ↦ elim (cases_lt from high) [
    | inl inside ↦
        let same : from ≡ low = omega arith in
        let one : suc (high - (from + 1)) ≡ high - low = omega arith in
        filter_takes_first p from n (is from (omega arith) (omega arith) ∙ within low high from here inside)
        ∙ ap (λ l. from ∷ l) (filter_run p (from + 1) high (from + 1) n (omega arith) (omega arith) (λ i above lt. is i (omega arith) (omega arith) ∙ later low high from i here above))
        ∙ (λ k. range_with_len (same k) (one k))
    | inr past ↦
        let none : high - low ≡ 0 = omega arith in
        filter_none p from (suc n) (λ i above lt. is i above lt ∙ too_high low high i (omega arith)) ∙ ap (range_with_len low) (sym none)
  ]
]
  where
    too_low : (low high i : ℕ) → i < low → (nat_le low i && nat_lt i high) ≡ false
    too_low low high i lt = grind (arith, nat_tests)

    too_high : (low high i : ℕ) → high ≤ i → (nat_le low i && nat_lt i high) ≡ false
    too_high low high i le = grind (arith, nat_tests)

    within : (low high i : ℕ) → low ≤ i → i < high → (nat_le low i && nat_lt i high) ≡ true
    within low high i le lt = grind (arith, nat_tests)

    later : (low high from i : ℕ) → low ≤ from → from + 1 ≤ i → (nat_le low i && nat_lt i high) ≡ (nat_le (from + 1) i && nat_lt i high)
    later low high from i le above = grind (arith, nat_tests)

-- a filter by either of two tests, if the first passes nothing from `middle` on, and the second nothing before
pub filter_parts : (s p q : ℕ → Bool) (middle from n : ℕ) → ((i : ℕ) → from ≤ i → i < from + n → s i ≡ (p i || q i)) → ((i : ℕ) → middle ≤ i → i < from + n → p i ≡ false) → ((i : ℕ) → i < middle → i < from + n → q i ≡ false)
    → filter s (range_with_len from n) ≡ filter p (range_with_len from n) ++ filter q (range_with_len from n)
filter_parts s p q middle from zero is low high = refl
filter_parts s p q middle from (suc n) is low high = elim (cases_lt from middle) [
  | inl before ↦
      let rest = filter_parts s p q middle (from + 1) n (λ i above lt. is i (omega arith) (omega arith)) (λ i past lt. low i past (omega arith)) (λ i under lt. high i under (omega arith)) in
      let none : q from ≡ false = high from before (omega arith) in
      elim (cases_Bool (p from)) [
        | inl here ↦ filter_takes_first s from n (is from (omega arith) (omega arith) ∙ or_left _ _ here) ∙ ap (λ l. from ∷ l) rest ∙ (λ k. sym (filter_takes_first p from n here) k ++ sym (filter_skips_first q from n none) k)
        | inr lacks ↦ filter_skips_first s from n (is from (omega arith) (omega arith) ∙ or_from _ _ lacks none) ∙ rest ∙ (λ k. sym (filter_skips_first p from n lacks) k ++ sym (filter_skips_first q from n none) k)
      ]
  | inr past ↦
      filter_same s q from (suc n) (λ i above lt. is i above lt ∙ ap (λ b. b || q i) (low i (omega arith) lt))
      ∙ ap (λ l. l ++ filter q (range_with_len from (suc n))) (sym (filter_none p from (suc n) (λ i above lt. low i (omega arith) lt)))
]

-- ---- cells inside ranges

-- the cell i of size w is inside a range
abbrev pub is_inside : ℕ → ℕ × ℕ → ℕ → Bool
is_inside w r i = nat_le r.0 (i * w) && nat_le ((i + 1) * w) r.1

-- the cell i of size w is inside a range of the list
abbrev pub fits_any : ℕ → List (ℕ × ℕ) → ℕ → Bool
fits_any w rs i = list_any (λ r. is_inside w r i) rs

pub fits_from : (w : ℕ) (r : ℕ × ℕ) (i : ℕ) → r.0 ≤ i * w → (i + 1) * w ≤ r.1 → is_inside w r i ≡ true
fits_from w r i low high = and_from _ _ (le-leb r.0 (i * w) low) (le-leb ((i + 1) * w) r.1 high)

pub fits_parts : (w : ℕ) (r : ℕ × ℕ) (i : ℕ) → is_inside w r i ≡ true → (r.0 ≤ i * w) × ((i + 1) * w ≤ r.1)
fits_parts w r i is = let parts = and_parts (nat_le r.0 (i * w)) (nat_le ((i + 1) * w) r.1) is in (leb-true r.0 (i * w) parts.0, leb-true ((i + 1) * w) r.1 parts.1)

next_cell : (i w : ℕ) → (i + 1) * w ≡ i * w + w
next_cell i w = omega arith

fits_one : (w i : ℕ) (rs : List (ℕ × ℕ)) → IsInsideOne (i * w) ((i + 1) * w) rs → fits_any w rs i ≡ true
fits_one w i [] lies = absurd lies
fits_one w i (r ∷ rs) lies = elim lies [
  | inl here ↦ or_left _ _ (fits_from w r i here.0 here.1)
  | inr later ↦ or_right _ _ (fits_one w i rs later)
]

fits_has : (w i : ℕ) (rs : List (ℕ × ℕ)) (q : ℕ) → fits_any w rs i ≡ true → i * w ≤ q → q < (i + 1) * w → in_ranges rs q ≡ true
fits_has w i [] q is low high = absurd (false≢true is)
fits_has w i (r ∷ rs) q is low high = elim (or_cases (is_inside w r i) (fits_any w rs i) is) [
  | inl here ↦
      let parts = fits_parts w r i here in
      or_left _ _ (and_from _ _ (le-leb r.0 q (omega arith)) (lt-ltb q r.1 (omega arith)))
  | inr later ↦ or_right _ _ (fits_has w i rs q later low high)
]

-- a cell is in a set if it is inside one of its ranges
pub subset_fits : (rs : List (ℕ × ℕ)) (k i : ℕ) → IsNormal rs → k ≤ 29 → i < cell_count k → set.is_subset (span k i) (set_of rs) ≡ fits_any (cell_size k) rs i
subset_fits rs k i normal small lt =
    let w = cell_size k in
    let pos = cell_size-positive k in
    let some : i * w < (i + 1) * w = omega arith in
    same_truth _ _
    (λ sub. fits_one w i rs (inside_one (i * w) ((i + 1) * w) rs some normal (λ q low high.
    sym (contains-set_of rs q) ∙ set.is_subset-contains nat_cmp_total (span k i) (set_of rs) sub q (in_span k i q small lt (and_from _ _ (le-leb (i * w) q low) (lt-ltb q ((i + 1) * w) high))))))
    (λ one. set.contains-is_subset nat_cmp_total (span k i) (set_of rs) (λ q has.
    let of_it : q / w ≡ i = eqb-true (q / w) i (and_parts (nat_lt q pixel_count) (nat_eq (q / w) i) (sym (contains-span k i q) ∙ has)).1 in
    let parts = and_parts (nat_le (i * w) q) (nat_lt q ((i + 1) * w)) (in_cell_range i w q pos of_it) in
    contains-set_of rs q ∙ fits_has w i rs q one (leb-true (i * w) q parts.0) (ltb-true q ((i + 1) * w) parts.1)))

-- no range after x contains a cell that begins at or before x
none_later : (x w i : ℕ) (rs : List (ℕ × ℕ)) → IsNormal rs → BeginsAfter x rs → i * w ≤ x → fits_any w rs i ≡ false
none_later x w i [] normal after le = refl
none_later x w i (r ∷ rs) normal after le =
    or_from _ _ (and_left _ _ (lt-leb r.0 (i * w) (omega arith))) (none_later r.1 w i rs normal.3 normal.2 (omega arith))

any_and : {X : Type 0} (p q : X → Bool) (xs : List X) → list_any p xs ≡ false → list_any (λ x. p x && q x) xs ≡ false
any_and p q [] none = refl
any_and p q (x ∷ xs) none = let parts = or_parts (p x) (list_any p xs) none in or_from _ _ (and_left _ _ parts.0) (any_and p q xs parts.1)

any_step : (x a b c d z : Bool) → (x ≡ true → c ≡ false) → (x ≡ true → d ≡ false) → (b ≡ true → x ≡ true) → (x ≡ false → (a && (z || not c)) ≡ d) → ((x || a) && (z || not (b || c))) ≡ ((x && (z || not b)) || d)
any_step true a true c d true no_c no_d down rest = refl
any_step true a false c d true no_c no_d down rest = refl
any_step true a true c d false no_c no_d down rest = sym (no_d refl)
any_step true a false c d false no_c no_d down rest = ap not (no_c refl)
any_step false a true c d z no_c no_d down rest = absurd (false≢true (down refl))
any_step false a false c d z no_c no_d down rest = rest refl

-- the cell i is inside a range, and its parent j, if it has one, is not
abbrev pub is_part : ℕ → ℕ → Bool → ℕ → ℕ → ℕ × ℕ → Bool
is_part w w4 top i j r = is_inside w r i && (top || not (is_inside w4 r j))

fits_down : (w w4 i j : ℕ) (r : ℕ × ℕ) → j * w4 ≤ i * w → (i + 1) * w ≤ (j + 1) * w4 → is_inside w4 r j ≡ true → is_inside w r i ≡ true
fits_down w w4 i j r low high is = let parts = fits_parts w4 r j is in fits_from w r i (omega arith) (omega arith)

any_part_of_cells : (w w4 i j : ℕ) (top : Bool) (rs : List (ℕ × ℕ)) → 0 < w → j * w4 ≤ i * w → (i + 1) * w ≤ (j + 1) * w4 → IsNormal rs → (fits_any w rs i && (top || not (fits_any w4 rs j))) ≡ list_any (is_part w w4 top i j) rs
any_part_of_cells w w4 i j top [] pos low high normal = refl
any_part_of_cells w w4 i j top (r ∷ rs) pos low high normal =
    let early : is_inside w r i ≡ true → i * w ≤ r.1 = λ is. let parts = fits_parts w r i is in let next = next_cell i w in omega arith in
    any_step (is_inside w r i) (fits_any w rs i) (is_inside w4 r j) (fits_any w4 rs j) (list_any (is_part w w4 top i j) rs) top
    (λ is. let e = early is in none_later r.1 w4 j rs normal.3 normal.2 (omega arith))
    (λ is. any_and (λ r. is_inside w r i) (λ r. top || not (is_inside w4 r j)) rs (none_later r.1 w i rs normal.3 normal.2 (early is)))
    (fits_down w w4 i j r low high)
    (λ other. any_part_of_cells w w4 i j top rs pos low high normal.3)

-- the position of the parent of cell i of order k
parent_around : (k i : ℕ) → 0 < k → k ≤ 29 → (i / 4 * cell_size (k - 1) ≤ i * cell_size k) × ((i + 1) * cell_size k ≤ (i / 4 + 1) * cell_size (k - 1))
parent_around zero i some small = absurd (omega arith)
parent_around (suc k) i some small =
    let w = cell_size (suc k) in
    let j = i / 4 in
    let before : suc k - 1 ≡ k = omega arith in
    let four : cell_size (suc k - 1) ≡ w * 4 = ap cell_size before ∙ four_parts k (omega arith) in
    let a : j * 4 * w ≤ i * w = mul-le-mul_right w (omega arith) in
    let b : (i + 1) * w ≤ (j + 1) * 4 * w = mul-le-mul_right w (omega arith) in
    let c : j * 4 * w ≡ j * (w * 4) = omega arith in
    let d : (j + 1) * 4 * w ≡ (j + 1) * (w * 4) = omega arith in
    rw four (omega arith, omega arith)

-- ---- the cells of an order, range by range

-- the cell i of order k is one of the cells of a range
abbrev pub part_at : ℕ → ℕ → ℕ × ℕ → Bool
part_at k i r = is_part (cell_size k) (cell_size (k - 1)) (nat_eq k 0) i (i / 4) r

parent_fits : (k i : ℕ) → i < cell_count (suc k) → i / 4 < cell_count (suc k - 1)
parent_fits k i lt =
    let before : suc k - 1 ≡ k = omega arith in
    let four : 4 ^ suc k ≡ 4 * 4 ^ k = pow-succ' 4 k in
    rw before (omega arith)

pub is_cell_any : (rs : List (ℕ × ℕ)) (k i : ℕ) → IsNormal rs → k ≤ 29 → i < cell_count k → is_cell_of (set_of rs) (cell_number k i) ≡ list_any (part_at k i) rs
unfolding is_cell_of
is_cell_any rs zero i normal small lt =
    ap (λ b. b && true) (subset_fits rs 0 i normal small lt)
    ∙ any_part_of_cells (cell_size 0) (cell_size 0) i i true rs (cell_size-positive 0) (omega arith) (omega arith) normal
is_cell_any rs (suc k) i normal small lt =
    let around = parent_around (suc k) i (omega arith) small in
    (λ n. subset_fits rs (suc k) i normal small lt n && (nat_eq (suc k) 0 || not (subset_fits rs (suc k - 1) (i / 4) normal (omega arith) (parent_fits k i lt) n)))
    ∙ any_part_of_cells (cell_size (suc k)) (cell_size (suc k - 1)) i (i / 4) (nat_eq (suc k) 0) rs (cell_size-positive (suc k)) around.0 around.1 normal

cells_at_any : (rs : List (ℕ × ℕ)) (k : ℕ) → IsNormal rs → k ≤ 29 → cells_at (set_of rs) k ≡ map (cell_number k) (filter (λ i. list_any (part_at k i) rs) (range_with_len 0 (cell_count k)))
unfolding cells_at
cells_at_any rs k normal small =
    filter-map (is_cell_of (set_of rs)) (cell_number k) (range_with_len 0 (cell_count k))
    ∙ ap (map (cell_number k)) (filter_same (λ i. is_cell_of (set_of rs) (cell_number k i)) (λ i. list_any (part_at k i) rs) 0 (cell_count k) (λ i low high. is_cell_any rs k i normal small (omega arith)))

or_with_false_inside : (a b : Bool) → (a || b) ≡ ((a || false) || b)
or_with_false_inside true b = refl
or_with_false_inside false b = refl

-- the cells of the first range of a normal list come first
pub cells_split : (r : ℕ × ℕ) (rs : List (ℕ × ℕ)) (k : ℕ) → IsNormal (r ∷ rs) → k ≤ 29 → cells_at (set_of (r ∷ rs)) k ≡ cells_at (set_of (r ∷ [])) k ++ cells_at (set_of rs) k
cells_split r rs k normal small =
    let w = cell_size k in
    let pos = cell_size-positive k in
    let n = cell_count k in
    let other = λ (r : ℕ × ℕ) (i : ℕ). nat_eq k 0 || not (is_inside (cell_size (k - 1)) r (i / 4)) in
    let parts = filter_parts (λ i. list_any (part_at k i) (r ∷ rs)) (λ i. list_any (part_at k i) (r ∷ [])) (λ i. list_any (part_at k i) rs) (r.1 / w) 0 n
    (λ i low high. or_with_false_inside (part_at k i r) (list_any (part_at k i) rs))
    (λ i past high. or_from _ _ (and_left _ _ (false_from_ne_true (is_inside w r i) (λ is. let at = le-div (i + 1) r.1 w pos (fits_parts w r i is).1 in omega arith))) refl)
    (λ i under high. any_and (λ r. is_inside w r i) (λ r. nat_eq k 0 || not (is_inside (cell_size (k - 1)) r (i / 4))) rs
    (none_later r.1 w i rs normal.3 normal.2 (let a : i * w ≤ r.1 / w * w = mul-le-mul_right w (omega arith) in omega (arith, div-mul-le_self r.1 w)))) in
    cells_at_any (r ∷ rs) k normal small ∙ ap (map (cell_number k)) parts
    ∙ map-append (cell_number k) (filter (λ i. list_any (part_at k i) (r ∷ [])) (range_with_len 0 n)) (filter (λ i. list_any (part_at k i) rs) (range_with_len 0 n))
    ∙ (λ s. sym (cells_at_any (r ∷ []) k (normal.0, normal.1, tt, tt) small) s ++ sym (cells_at_any rs k normal.3 small) s)

-- ---- the cells of one range

fits_whole_cell : (k from to first last i : ℕ) → AreInnerCells k from to first last → is_inside (cell_size k) (from, to) i ≡ (nat_le first i && nat_lt i last)
fits_whole_cell k from to first last i whole = same_truth _ _
    (λ is. let at = (whole.each i).1 (fits_parts (cell_size k) (from, to) i is) in and_from _ _ (le-leb first i at.0) (lt-ltb i last at.1))
    (λ is. let parts = and_parts (nat_le first i) (nat_lt i last) is in
    let at = (whole.each i).0 (leb-true first i parts.0, ltb-true i last parts.1) in fits_from (cell_size k) (from, to) i at.0 at.1)

-- no parent is inside the range
one_test : (first last low high i : ℕ) → high ≤ low → (((nat_le first i && nat_lt i last) && (false || not (nat_le low (i / 4) && nat_lt (i / 4) high))) || false) ≡ (nat_le first i && nat_lt i last)
one_test first last low high i none = let j = i / 4 in grind (arith, nat_tests)

-- the parents from `low` up to `high` are inside the range
inner_cells_between : (first last low high i : ℕ) → low < high → first ≤ 4 * low → 4 * high ≤ last → (((nat_le first i && nat_lt i last) && (false || not (nat_le low (i / 4) && nat_lt (i / 4) high))) || false) ≡ ((nat_le first i && nat_lt i (4 * low)) || (nat_le (4 * high) i && nat_lt i last))
inner_cells_between first last low high i some a b = grind (arith, nat_tests)

pub run_top : (k from to first last : ℕ) → k ≡ 0 → from < to → to ≤ pixel_count → AreInnerCells k from to first last → cells_at (set_of ((from, to) ∷ [])) k ≡ cells_of_range k (first, last)
run_top zero from to first last top some fits_in whole =
    cells_at_any ((from, to) ∷ []) 0 (some, fits_in, tt, tt) (omega arith)
    ∙ ap (map (cell_number 0)) (filter_run (λ i. list_any (part_at 0 i) ((from, to) ∷ [])) first last 0 (cell_count 0) (omega arith) (omega (arith, whole.in_range))
    (λ i low high. ap (λ b. (b && true) || false) (fits_whole_cell 0 from to first last i whole) ∙ plain (nat_le first i && nat_lt i last)))
  where
    plain : (b : Bool) → ((b && true) || false) ≡ b
    plain true = refl
    plain false = refl
run_top (suc k) from to first last top some fits_in whole = absurd (omega arith)

not_top : (k : ℕ) → nat_eq (suc k) 0 ≡ false
not_top k = ne_eqb (suc k) 0 (λ e. omega arith)

inner_cells_of_part : (k from to first last low high i : ℕ) → AreInnerCells (suc k) from to first last → AreInnerCells (suc k - 1) from to low high
    → list_any (part_at (suc k) i) ((from, to) ∷ []) ≡ (((nat_le first i && nat_lt i last) && (false || not (nat_le low (i / 4) && nat_lt (i / 4) high))) || false)
inner_cells_of_part k from to first last low high i whole parents =
    (λ n. (fits_whole_cell (suc k) from to first last i whole n && (not_top k n || not (fits_whole_cell (suc k - 1) from to low high (i / 4) parents n))) || false)

pub run_one : (k from to first last low high : ℕ) → 0 < k → k ≤ 29 → from < to → to ≤ pixel_count → AreInnerCells k from to first last → AreInnerCells (k - 1) from to low high → high ≤ low → cells_at (set_of ((from, to) ∷ [])) k ≡ cells_of_range k (first, last)
run_one zero from to first last low high deep small some fits_in whole parents none = absurd (omega arith)
run_one (suc k) from to first last low high deep small some fits_in whole parents none =
    cells_at_any ((from, to) ∷ []) (suc k) (some, fits_in, tt, tt) small
    ∙ ap (map (cell_number (suc k))) (filter_run (λ i. list_any (part_at (suc k) i) ((from, to) ∷ [])) first last 0 (cell_count (suc k)) (omega arith) (omega (arith, whole.in_range))
    (λ i above lt. inner_cells_of_part k from to first last low high i whole parents ∙ one_test first last low high i none))

-- the four cells of a parent are inside the range too
child_in : (k from to first last low high i : ℕ) → k ≤ 28 → AreInnerCells (suc k) from to first last → AreInnerCells (suc k - 1) from to low high → low ≤ i / 4 → i / 4 < high → (first ≤ i) × (i < last)
child_in k from to first last low high i small whole parents a b =
    let around = parent_around (suc k) i (omega arith) (omega arith) in
    let at = (parents.each (i / 4)).0 (a, b) in
    (whole.each i).1 (omega arith, omega arith)

pub run_two : (k from to first last low high : ℕ) → 0 < k → k ≤ 29 → from < to → to ≤ pixel_count → AreInnerCells k from to first last → AreInnerCells (k - 1) from to low high → low < high
    → cells_at (set_of ((from, to) ∷ [])) k ≡ cells_of_range k (first, 4 * low) ++ cells_of_range k (4 * high, last)
run_two zero from to first last low high deep small some fits_in whole parents more = absurd (omega arith)
run_two (suc k) from to first last low high deep small some fits_in whole parents more =
    let n = cell_count (suc k) in
    let a : first ≤ 4 * low = (child_in k from to first last low high (4 * low) (omega arith) whole parents (omega arith) (omega arith)).0 in
    let b : 4 * high ≤ last = (let c = (child_in k from to first last low high (4 * high - 1) (omega arith) whole parents (omega arith) (omega arith)).1 in omega arith) in
    let fit = whole.in_range in
    let p = λ (i : ℕ). nat_le first i && nat_lt i (4 * low) in
    let q = λ (i : ℕ). nat_le (4 * high) i && nat_lt i last in
    cells_at_any ((from, to) ∷ []) (suc k) (some, fits_in, tt, tt) small
    ∙ ap (map (cell_number (suc k))) (
    filter_parts (λ i. list_any (part_at (suc k) i) ((from, to) ∷ [])) p q (4 * low) 0 n
    (λ i above lt. inner_cells_of_part k from to first last low high i whole parents ∙ inner_cells_between first last low high i more a b)
    (λ i past lt. not_before first (4 * low) i past)
    (λ i under lt. not_after (4 * high) last i (omega arith))
    ∙ (λ s. filter_run p first (4 * low) 0 n (omega arith) (omega arith) (λ i above lt. refl) s ++ filter_run q (4 * high) last 0 n (omega arith) (omega arith) (λ i above lt. refl) s))
    ∙ map-append (cell_number (suc k)) (range_with_len first (4 * low - first)) (range_with_len (4 * high) (last - 4 * high))
  where
    not_before : (low high i : ℕ) → high ≤ i → (nat_le low i && nat_lt i high) ≡ false
    not_before low high i le = grind (arith, nat_tests)

    not_after : (low high i : ℕ) → i < low → (nat_le low i && nat_lt i high) ≡ false
    not_after low high i lt = grind (arith, nat_tests)

-- ---- the first and the last cell inside a range, as the code computes them

pub two_pow : (k : ℕ) → 2 ^ (2 * (29 - k)) ≡ cell_size k
unfolding cell_size
two_pow k = four_pow (29 - k)
  where
    four_pow : (k : ℕ) → 2 ^ (2 * k) ≡ 4 ^ k
    four_pow zero = refl
    four_pow (suc k) =
        let e : 2 * suc k ≡ suc (suc (2 * k)) = omega arith in
        rw e (omega (arith, pow-succ' 2 (suc (2 * k)), pow-succ' 2 (2 * k), pow-succ' 4 k, four_pow k))

pub whole_is : (k w from to : ℕ) → w ≡ cell_size k → k ≤ 29 → to ≤ pixel_count → AreInnerCells k from to ((from + (w - 1)) / w) (to / w)
whole_is k w from to is small fits_in =
    rw is (record { each = λ i. (there i, back i); in_range = below })
  where
    pos : 0 < cell_size k
    pos = cell_size-positive k

    there : (i : ℕ) → ((from + (cell_size k - 1)) / cell_size k ≤ i) × (i < to / cell_size k) → (from ≤ i * cell_size k) × ((i + 1) * cell_size k ≤ to)
    there i (low, high) =
        let n = from + (cell_size k - 1) in
        let p = pos in
        let f = div-add-mod' n (cell_size k) in
        let g = mod_below n (cell_size k) pos in
        let a : n / cell_size k * cell_size k ≤ i * cell_size k = mul-le-mul_right (cell_size k) low in
        let b : (i + 1) * cell_size k ≤ to / cell_size k * cell_size k = mul-le-mul_right (cell_size k) (omega arith) in
        let next = next_cell i (cell_size k) in
        (omega arith, omega (arith, div-mul-le_self to (cell_size k)))

    back : (i : ℕ) → (from ≤ i * cell_size k) × ((i + 1) * cell_size k ≤ to) → ((from + (cell_size k - 1)) / cell_size k ≤ i) × (i < to / cell_size k)
    back i (low, high) =
        let next = next_cell i (cell_size k) in
        let p = pos in
        let a = div_below (from + (cell_size k - 1)) (cell_size k) (i + 1) pos (omega arith) in
        let b = le-div (i + 1) to (cell_size k) pos high in
        (omega arith, omega arith)

    below : to / cell_size k ≤ cell_count k
    below =
        let p = pos in
        let next = next_cell (cell_count k) (cell_size k) in
        let fills = cell_size-fills k small in
        let a = div_below to (cell_size k) (cell_count k + 1) pos (omega arith) in
        omega arith

-- ---- runs of cells, as the code appends them

pub run_more : (k first i : ℕ) → first ≤ i → cells_of_range k (first, i + 1) ≡ cells_of_range k (first, i) ++ cell_number k i ∷ []
run_more k first i le =
    let one : i + 1 - first ≡ i - first + 1 = omega arith in
    ap (λ n. map (cell_number k) (range_with_len first n)) one ∙ map-range_with_len_more (cell_number k) first (i - first) i (omega arith)

pub run_empty : (k first : ℕ) → cells_of_range k (first, first) ≡ []
run_empty k first = let none : first - first ≡ 0 = omega arith in ap (λ n. map (cell_number k) (range_with_len first n)) none

pub run_whole : (k first i last : ℕ) → i - first ≡ last - first → cells_of_range k (first, i) ≡ cells_of_range k (first, last)
run_whole k first i last same = ap (λ n. map (cell_number k) (range_with_len first n)) same

pub count_bound : (k : ℕ) → k ≤ 29 → cell_count k ≤ pixel_count
count_bound k small =
    let most : 4 ^ k ≤ 4 ^ 29 = pow-le-pow_right (omega arith) small in
    omega arith

pub four_children : (k : ℕ) → 0 < k → 4 * cell_count (k - 1) ≡ cell_count k
four_children zero some = absurd (omega arith)
four_children (suc k) some =
    let before : suc k - 1 ≡ k = omega arith in
    let four : 4 ^ suc k ≡ 4 * 4 ^ k = pow-succ' 4 k in
    rw before (omega arith)

-- a list without ranges has no cell
pub no_cells : (k : ℕ) → k ≤ 29 → cells_at (set_of []) k ≡ []
no_cells k small = cells_at_any [] k tt small ∙ ap (map (cell_number k)) (filter_none (λ i. false) 0 (cell_count k) (λ i low high. refl))
