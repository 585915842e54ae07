-- The possible orders of the cells of a set: no cell is wider than the widest range, and no parent's size divides all
-- bounds.
use Rattle.std.proofs.Common.{◌≡◌, ℕ, zero, suc, ◌+◌, ◌-◌, ◌*◌, ◌/◌, ◌%◌, ◌^◌, ◌<◌, ◌≤◌, Bool, true, false, not, ◌&&◌}
use Rattle.std.proofs.Common.{◌||◌, List, [], ◌∷◌, ◌++◌, min, max, refl, sym, ap, subst, ◌∙◌, inl, inr, arith, map}
use Rattle.std.proofs.Common.{append-nil, ◌⊎◌}
use Rattle.std.specs.Prelude.{nat_eq, bit_or, ⊤}
use Rattle.std.specs.List.{list_any, filter, range_with_len}
use Rattle.std.proofs.lemmas.List.Elements.{filter-append}
use Rattle.std.specs.Int.{w64, trailing_zeros, bit_at}
use Rattle.std.proofs.lemmas.Bool.{cases_lt, or_cases, or_left, or_right, or_from, and_parts, false≢true, ne_eqb}
use Rattle.std.proofs.lemmas.Bool.{false_from_ne_true}
use Rattle.std.proofs.lemmas.Nat.{div-add-mod', mod-pow-add, or_mod, le_or_l, le_or_r}
use Rattle.std.proofs.lemmas.Nat.Bits.{bit_at-trailing_zeros}
use Rattle.std.proofs.Math.Nat.{mul-le-mul_right, le_of_mul-le-mul_right, pow-le-pow_right, pow-succ'}
use Rattle.moc_sphere.specs.CellNumber.{cell_number, cell_count, cell_size}
use Rattle.moc_sphere.specs.Lemmas.{cell_size-positive}
use Rattle.moc_blocks.specs.RangeList.{set_of, IsNormal, NumberSet}
use Rattle.moc_ranges.specs.Cells.{is_cell_of, cells_below, cells_of}
use Rattle.moc_ranges.specs.Lemmas.Cells.{four_parts}
use Rattle.moc_ranges.specs.Private.CellRuns.{HasOrders, cells_at}
use Rattle.moc_ranges.proofs.CellRuns.{is_inside, fits_any, fits_from, fits_parts, is_part, part_at, is_cell_any, two_pow}
use Rattle.moc_ranges.proofs.CellRuns.{filter-map, filter_none}

-- both bounds of each range are multiples of n
abbrev pub AllMultiples : ℕ → List (ℕ × ℕ) → Type 0
AllMultiples n [] = ⊤
AllMultiples n (r ∷ rs) = (r.0 % n ≡ 0) × (r.1 % n ≡ 0) × AllMultiples n rs

-- no range is wider than n
abbrev pub AllNarrow : ℕ → List (ℕ × ℕ) → Type 0
AllNarrow n [] = ⊤
AllNarrow n (r ∷ rs) = (r.1 ≤ r.0 + n) × AllNarrow n rs

-- ---- the invariant of the scan

-- the width of the widest range, and a number with the bits of all bounds, for the ranges that the scan has read
pub record Scanning (ends widest : ℕ) (rest whole : List (ℕ × ℕ)) : Type 0 where
  pub normal : IsNormal rest
  pub multiples : (s : ℕ) → ends % 2 ^ s ≡ 0 → AllMultiples (2 ^ s) rest → AllMultiples (2 ^ s) whole
  pub narrow : (n : ℕ) → widest ≤ n → AllNarrow n rest → AllNarrow n whole

pub or_multiple : (a b s : ℕ) → bit_or a b % 2 ^ s ≡ 0 → (a % 2 ^ s ≡ 0) × (b % 2 ^ s ≡ 0)
or_multiple a b s none =
    let parts : bit_or (a % 2 ^ s) (b % 2 ^ s) ≡ 0 = sym (or_mod a b s) ∙ none in
    let l = le_or_l (a % 2 ^ s) (b % 2 ^ s) in
    let r = le_or_r (a % 2 ^ s) (b % 2 ^ s) in
    (omega arith, omega arith)

pub scan_step : (ends widest : ℕ) (r : ℕ × ℕ) (rest whole : List (ℕ × ℕ)) → Scanning ends widest (r ∷ rest) whole → Scanning (bit_or ends (bit_or r.0 r.1)) (max widest (r.1 - r.0)) rest whole
scan_step ends widest r rest whole s = record {
  normal = s.normal.3;
  multiples = λ k none all.
      let outer = or_multiple ends (bit_or r.0 r.1) k none in
      let inner = or_multiple r.0 r.1 k outer.1 in
      s.multiples k outer.0 (inner.0, inner.1, all);
  narrow = λ n le all. s.narrow n (omega arith) (omega arith, all);
}

-- ---- the least order

narrow_fits : (w n i : ℕ) (rs : List (ℕ × ℕ)) → AllNarrow n rs → fits_any w rs i ≡ true → w ≤ n
narrow_fits w n i [] narrow is = absurd (false≢true is)
narrow_fits w n i (r ∷ rs) narrow is = elim (or_cases (is_inside w r i) (fits_any w rs i) is) [
  | inl here ↦
      let parts = fits_parts w r i here in
      let next : (i + 1) * w ≡ i * w + w = omega arith in
      omega arith
  | inr later ↦ narrow_fits w n i rs narrow.1 later
]

any_fits : (k i : ℕ) (rs : List (ℕ × ℕ)) → list_any (part_at k i) rs ≡ true → fits_any (cell_size k) rs i ≡ true
any_fits k i [] is = is
any_fits k i (r ∷ rs) is = elim (or_cases (part_at k i r) (list_any (part_at k i) rs) is) [
  | inl here ↦ or_left _ _ (and_parts (is_inside (cell_size k) r i) (nat_eq k 0 || not (is_inside (cell_size (k - 1)) r (i / 4))) here).0
  | inr later ↦ or_right _ _ (any_fits k i rs later)
]

-- a power of two that is at most n has at most the exponent of n
exponent_le : (e l n : ℕ) → 2 ^ e ≤ n → n < 2 * 2 ^ l → e ≤ l
exponent_le e l n low high = elim (cases_lt l e) [
  | inl above ↦
      let more : 2 ^ suc l ≤ 2 ^ e = pow-le-pow_right (omega arith) (omega arith) in
      let next = pow-succ' 2 l in
      absurd (omega arith)
  | inr le ↦ le
]

first_order : (k l n : ℕ) → k ≤ 29 → cell_size k ≤ n → n < 2 * 2 ^ l → 29 - min (l / 2) 29 ≤ k
first_order k l n small le high =
    let e = exponent_le (2 * (29 - k)) l n (omega (arith, two_pow k)) high in
    omega arith

-- ---- the greatest order

pub multiple_of : (a n : ℕ) → a % n ≡ 0 → a ≡ a / n * n
multiple_of a n none = omega (arith, div-add-mod' a n)

-- if both bounds are multiples of the parent's size, the parent of a cell inside a range is inside it too
parent_in : (w i : ℕ) (r : ℕ × ℕ) → 0 < w → r.0 % (w * 4) ≡ 0 → r.1 % (w * 4) ≡ 0 → is_inside w r i ≡ true → is_inside (w * 4) r (i / 4) ≡ true
parent_in w i r pos low high is =
    let parts = fits_parts w r i is in
    let a = r.0 / (w * 4) in
    let b = r.1 / (w * 4) in
    let low_is : r.0 ≡ a * 4 * w = multiple_of r.0 (w * 4) low ∙ omega arith in
    let high_is : r.1 ≡ b * 4 * w = multiple_of r.1 (w * 4) high ∙ omega arith in
    let from : a * 4 ≤ i = le_of_mul-le-mul_right {m = a * 4} {n = i} {k = w} (omega arith) pos in
    let to : i + 1 ≤ b * 4 = le_of_mul-le-mul_right {m = i + 1} {n = b * 4} {k = w} (omega arith) pos in
    let c : a * (w * 4) ≤ i / 4 * (w * 4) = mul-le-mul_right (w * 4) (omega arith) in
    let d : (i / 4 + 1) * (w * 4) ≤ b * (w * 4) = mul-le-mul_right (w * 4) (omega arith) in
    let e : a * (w * 4) ≡ r.0 = sym (multiple_of r.0 (w * 4) low) in
    let f : b * (w * 4) ≡ r.1 = sym (multiple_of r.1 (w * 4) high) in
    fits_from (w * 4) r (i / 4) (omega arith) (omega arith)

no_part : (x y : Bool) → (x ≡ true → y ≡ true) → (x && (false || not y)) ≡ false
no_part true y up = ap not (up refl)
no_part false y up = refl

no_parts : (w i : ℕ) (rs : List (ℕ × ℕ)) → 0 < w → AllMultiples (w * 4) rs → list_any (is_part w (w * 4) false i (i / 4)) rs ≡ false
no_parts w i [] pos all = refl
no_parts w i (r ∷ rs) pos all = or_from _ _ (no_part (is_inside w r i) (is_inside (w * 4) r (i / 4)) (parent_in w i r pos all.0 all.1)) (no_parts w i rs pos all.2)

no_deeper : (k i : ℕ) (rs : List (ℕ × ℕ)) → k < 29 → AllMultiples (cell_size k) rs → list_any (part_at (suc k) i) rs ≡ false
no_deeper k i rs small all =
    let four = four_parts k small in
    let before : suc k - 1 ≡ k = omega arith in
    let top : nat_eq (suc k) 0 ≡ false = ne_eqb (suc k) 0 (λ e. omega arith) in
    (λ n. list_any (is_part (cell_size (suc k)) ((ap cell_size before ∙ four) n) (top n) i (i / 4)) rs)
    ∙ no_parts (cell_size (suc k)) i rs (cell_size-positive (suc k)) (subst (λ (w : ℕ). AllMultiples w rs) four all)

-- the trailing zeros of a number are zero bits
pub low_zeros : (n j : ℕ) → n < 2 ^ 64 → j ≤ trailing_zeros w64 n → n % 2 ^ j ≡ 0
low_zeros zero j fits_in le = zero_mod j
  where
    zero_mod : (j : ℕ) → 0 % 2 ^ j ≡ 0
    zero_mod j = omega arith
low_zeros (suc n) j fits_in le = below (bit_at-trailing_zeros w64 (suc n) (omega arith) fits_in).2 j le
  where
    below : ((i : ℕ) → i < trailing_zeros w64 (suc n) → bit_at (suc n) i ≡ 0) → (j : ℕ) → j ≤ trailing_zeros w64 (suc n) → suc n % 2 ^ j ≡ 0
    below zeros zero le = omega arith
    below zeros (suc j) le =
        let one : 1 + j ≡ suc j = omega arith in
        let here = zeros j (omega arith) in
        let rest = below zeros j (omega arith) in
        ap (λ e. suc n % 2 ^ e) (sym one) ∙ mod-pow-add (suc n) 1 j ∙ (λ s. here s * 2 ^ j + rest s) ∙ omega arith

last_order : (k i ends widest : ℕ) (rs : List (ℕ × ℕ)) → Scanning ends widest [] rs → ends < 2 ^ 64 → k ≤ 29 → list_any (part_at k i) rs ≡ true → k < 30 - min (trailing_zeros w64 ends / 2) 29
last_order zero i ends widest rs s fits_in small is = omega arith
last_order (suc k) i ends widest rs s fits_in small is =
    elim (cases_lt (suc k) (30 - min (trailing_zeros w64 ends / 2) 29)) [
      | inl lt ↦ lt
      | inr ge ↦
          let all = s.multiples (2 * (29 - k)) (low_zeros ends (2 * (29 - k)) fits_in (omega arith)) tt in
          absurd (false≢true (sym (no_deeper k i rs (omega arith) (subst (λ (w : ℕ). AllMultiples w rs) (two_pow k) all)) ∙ is))
    ]

-- the result of a finished scan
pub scan_end : (ends widest l : ℕ) (rs : List (ℕ × ℕ)) → Scanning ends widest [] rs → IsNormal rs → ends < 2 ^ 64 → widest < 2 * 2 ^ l → HasOrders (set_of rs) (29 - min (l / 2) 29) (30 - min (trailing_zeros w64 ends / 2) 29)
scan_end ends widest l rs s normal fits_in high = record {
  each = λ k i small lt is.
      let any : list_any (part_at k i) rs ≡ true = sym (is_cell_any rs k i normal small lt) ∙ is in
      let wide = narrow_fits (cell_size k) widest i rs (s.narrow widest (omega arith) tt) (any_fits k i rs any) in
      (first_order k l widest small wide high, last_order k i ends widest rs s fits_in small any);
  first_in_range = omega arith;
  last_in_range = omega arith;
}

-- a set without a range that is wide enough has no cell
pub orders_of_empty_scan : (ends : ℕ) (rs : List (ℕ × ℕ)) → Scanning ends 0 [] rs → IsNormal rs → HasOrders (set_of rs) 0 0
orders_of_empty_scan ends rs s normal = record {
  each = λ k i small lt is.
      let any : list_any (part_at k i) rs ≡ true = sym (is_cell_any rs k i normal small lt) ∙ is in
      let wide = narrow_fits (cell_size k) 0 i rs (s.narrow 0 (omega arith) tt) (any_fits k i rs any) in
      let pos = cell_size-positive k in
      absurd (omega arith);
  first_in_range = omega arith;
  last_in_range = omega arith;
}

-- ---- order by order

-- the cells of one more order
pub cells_step : (a : NumberSet) (k : ℕ) → filter (is_cell_of a) (cells_below (suc k)) ≡ filter (is_cell_of a) (cells_below k) ++ cells_at a k
unfolding cells_below cells_at
cells_step a k = filter-append (is_cell_of a) (cells_below k) (map (cell_number k) (range_with_len 0 (cell_count k)))

-- an order outside these has no cells
pub none_at : (a : NumberSet) (first last k : ℕ) → HasOrders a first last → k ≤ 29 → (k < first) ⊎ (last ≤ k) → cells_at a k ≡ []
unfolding cells_at
none_at a first last k has small out =
    filter-map (is_cell_of a) (cell_number k) (range_with_len 0 (cell_count k))
    ∙ ap (map (cell_number k)) (filter_none (λ i. is_cell_of a (cell_number k i)) 0 (cell_count k) (λ i low high.
    false_from_ne_true (is_cell_of a (cell_number k i)) (λ is. let at = has.each k i small (omega arith) is in elim out [ inl before ↦ omega arith | inr past ↦ omega arith ])))

no_cells_below_zero : (a : NumberSet) → filter (is_cell_of a) (cells_below 0) ≡ []
unfolding cells_below
no_cells_below_zero a = refl

all_orders : (a : NumberSet) → filter (is_cell_of a) (cells_below 30) ≡ cells_of a
unfolding cells_of
all_orders a = refl

-- the orders before the first have no cells
pub cells_before : (a : NumberSet) (first last k : ℕ) → HasOrders a first last → k ≤ first → k ≤ 30 → filter (is_cell_of a) (cells_below k) ≡ []
cells_before a first last zero has le small = no_cells_below_zero a
cells_before a first last (suc k) has le small =
    cells_step a k ∙ (λ s. cells_before a first last k has (omega arith) (omega arith) s ++ none_at a first last k has (omega arith) (inl (omega arith)) s)

-- the orders from the last on have no cells
pub cells_after : (a : NumberSet) (first last k n : ℕ) → HasOrders a first last → last ≤ k → k + n ≡ 30 → filter (is_cell_of a) (cells_below k) ≡ cells_of a
cells_after a first last k zero has past all = ap (λ orders. filter (is_cell_of a) (cells_below orders)) (omega arith) ∙ all_orders a
cells_after a first last k (suc n) has past all =
    sym (cells_step a k ∙ ap (λ l. filter (is_cell_of a) (cells_below k) ++ l) (none_at a first last k has (omega arith) (inr past)) ∙ append-nil (filter (is_cell_of a) (cells_below k)))
    ∙ cells_after a first last (suc k) n has (omega arith) (omega arith)
