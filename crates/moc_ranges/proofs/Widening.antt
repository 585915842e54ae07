-- Widening ranges to whole cells.
use Rattle.std.proofs.Common.{◌^◌, max, ◌≡◌, ℕ, ◌+◌, ◌-◌, ◌*◌, ◌/◌, ◌<◌, ◌≤◌, true, ◌&&◌, ltb, List}
use Rattle.std.proofs.Common.{[], ◌∷◌, refl, sym, ap, subst, ◌∙◌, arith, inl, inr, map}
use Rattle.std.proofs.lemmas.Nat.{div-add-mod', div_below, le-div, pow_pos, shr_below}
use Rattle.std.proofs.Math.Nat.{mul-le-mul_right, pow-le-pow_right, mod-eq_of_lt}
use Rattle.std.specs.FinSet as set
use Rattle.moc_sphere.specs.CellNumber.{cell_size}
use Rattle.moc_sphere.specs.Lemmas.{cell_size-positive, cell_size-fills}
use Rattle.moc_blocks.specs.RangeList.{NumberSet, pixel_count, set_of, IsNormal, BeginsAfter}
use Rattle.moc_ranges.specs.Lemmas.Members.{meets-some, meets-none, contains-span, contains-degrade}
use Rattle.moc_blocks.specs.Lemmas.Members.{contains-set_of, in_range, in_ranges, and_false}
use Rattle.moc_ranges.specs.Cells.{span, degrade}
use Rattle.moc_ranges.proofs.Sorting.{IsSortedFrom-less}
use Rattle.std.proofs.lemmas.Bool.{cases_Bool, false≢true, false_from_ne_true, eqb-true, eq-eqb, or_cases, or_left}
use Rattle.std.proofs.lemmas.Bool.{or_right, and_parts, and_from, lt-ltb}
use Rattle.moc_ranges.specs.Private.Sorted.{IsSortedFrom}
use Rattle.moc_ranges.specs.Private.Widen.{IsCellSize, widen}
use Rattle.std.specs.Prelude.{bit_and}
use Rattle.std.proofs.lemmas.Nat.Bits.{and_high}
use Rattle.moc_ranges.proofs.CellRuns.{two_pow}
use Rattle.moc_operations.proofs.Lacking.{range_from, in_range_by_bounds}
use Rattle.moc_ranges.proofs.Views.{and_no}
use Rattle.moc_operations.proofs.Views.{normal_below}

floor_le : (w q : ℕ) → q / w * w ≤ q
floor_le w q = omega (arith, div-add-mod' q w)

floor_gt : (w q : ℕ) → 0 < w → q < q / w * w + w
floor_gt w q some = omega (arith, div-add-mod' q w)

pub same_quotient : (w c p : ℕ) → 0 < w → c * w ≤ p → p < c * w + w → p / w ≡ c
same_quotient w c p some low high =
    let le = le-div c p w some low in
    let lt = div_below p w (c + 1) some (omega arith) in
    omega arith

pub increases : (w x y : ℕ) → 0 < w → x ≤ y → x / w ≤ y / w
increases w x y some le = le-div (x / w) y w some (omega (arith, floor_le w x))

-- a number inside a widened range has the same cell as a number inside the range
widened_from : (w f t q : ℕ) → 0 < w → f < t → f / w * w ≤ q → q < (t - 1) / w * w + w → (p : ℕ) × (f ≤ p) × (p < t) × (p / w ≡ q / w)
widened_from w f t q some lt low high =
    let c = q / w in
    let from = le-div (f / w) q w some low in
    let to = div_below q w ((t - 1) / w + 1) some (omega arith) in
    let a = mul-le-mul_right w from in
    let b : q / w * w ≤ (t - 1) / w * w = mul-le-mul_right w (omega arith) in
    let floor_t = floor_le w (t - 1) in
    let over_f = floor_gt w f some in
    (max f (c * w), omega arith, omega arith, same_quotient w c (max f (c * w)) some (omega arith) (omega arith))

-- a number with the same cell as a number inside a range is inside the widened range
widened_has : (w f t p q : ℕ) → 0 < w → f ≤ p → p < t → p / w ≡ q / w → (f / w * w ≤ q) × (q < (t - 1) / w * w + w)
widened_has w f t p q some low high same =
    let from : f / w ≤ q / w = omega (arith, increases w f p some low) in
    let to : q / w ≤ (t - 1) / w = omega (arith, increases w p (t - 1) some (omega arith)) in
    let a = mul-le-mul_right w from in
    let b = mul-le-mul_right w to in
    (omega (arith, floor_le w q), omega (arith, floor_gt w q some))

pub in_widened_from : (w : ℕ) (rs : List (ℕ × ℕ)) (q : ℕ) → 0 < w → IsNormal rs → in_ranges (map (widen w) rs) q ≡ true → (p : ℕ) × (in_ranges rs p ≡ true) × (p / w ≡ q / w)
in_widened_from w [] q some normal e = absurd (cc)
in_widened_from w (r ∷ rs) q some normal e = elim (or_cases (in_range (widen w r) q) (in_ranges (map (widen w) rs) q) e) [
  | inl here ↦
      let at = range_from (widen w r) q here in
      let p = widened_from w r.0 r.1 q some normal.0 at.0 at.1 in
      (p.0, or_left (in_range r p.0) (in_ranges rs p.0) (in_range_by_bounds r p.0 p.1 p.2), p.3)
  | inr later ↦
      let p = in_widened_from w rs q some normal.3 later in
      (p.0, or_right (in_range r p.0) (in_ranges rs p.0) p.1, p.2)
]

pub in_widened : (w : ℕ) (rs : List (ℕ × ℕ)) (p q : ℕ) → 0 < w → in_ranges rs p ≡ true → p / w ≡ q / w → in_ranges (map (widen w) rs) q ≡ true
in_widened w [] p q some e same = absurd (cc)
in_widened w (r ∷ rs) p q some e same = elim (or_cases (in_range r p) (in_ranges rs p) e) [
  | inl here ↦
      let at = range_from r p here in
      let wide = widened_has w r.0 r.1 p q some at.0 at.1 same in
      or_left (in_range (widen w r) q) (in_ranges (map (widen w) rs) q) (in_range_by_bounds (widen w r) q wide.0 wide.1)
  | inr later ↦ or_right (in_range (widen w r) q) (in_ranges (map (widen w) rs) q) (in_widened w rs p q some later same)
]

begins_after : (x : ℕ) (rs : List (ℕ × ℕ)) (s : ℕ × ℕ) (rest : List (ℕ × ℕ)) → rs ≡ s ∷ rest → BeginsAfter x rs → {y : ℕ} → y ≤ x → y ≤ s.0
begins_after x rs s rest e after {y} le = let at = subst (λ (l : List (ℕ × ℕ)). BeginsAfter x l) e after in omega arith

-- widened ranges are sorted, and are within the pixels if the pixels are whole cells
pub IsSortedFrom-widened : (w m x : ℕ) (rs : List (ℕ × ℕ)) → 0 < w → m * w ≡ pixel_count → IsNormal rs → ((r : ℕ × ℕ) (rest : List (ℕ × ℕ)) → rs ≡ r ∷ rest → x ≤ r.0) → IsSortedFrom (x / w * w) (map (widen w) rs)
IsSortedFrom-widened w m x [] some whole normal after = tt
IsSortedFrom-widened w m x (r ∷ rs) some whole normal after =
    let le = mul-le-mul_right w (increases w x r.0 some (after r rs refl)) in
    let below = div_below (r.1 - 1) w m some (omega (arith, normal.0, normal.1)) in
    let room : ((r.1 - 1) / w + 1) * w ≤ m * w = mul-le-mul_right w (omega arith) in (
      le,
      omega (arith, floor_le w r.0, floor_gt w (r.1 - 1) some, normal.0),
      omega arith,
      IsSortedFrom-widened w m r.0 rs some whole normal.3 (λ s rest e. let n = normal.2 in begins_after r.1 rs s rest e normal.2 (omega (arith, normal.0))),
    )

sorted_below : (low : ℕ) (rs : List (ℕ × ℕ)) (q : ℕ) → IsSortedFrom low rs → in_ranges rs q ≡ true → q < pixel_count
sorted_below low [] q s e = absurd (cc)
sorted_below low (r ∷ rs) q s e = elim (or_cases (in_range r q) (in_ranges rs q) e) [
  | inl here ↦ omega (arith, range_from r q here, s.2)
  | inr later ↦ sorted_below r.0 rs q s.3 later
]

pub widened_sorted : (order : ℕ) (rs : List (ℕ × ℕ)) → order ≤ 29 → IsNormal rs → IsSortedFrom 0 (map (widen (cell_size order)) rs)
widened_sorted order rs le normal =
    IsSortedFrom-less (0 / cell_size order * cell_size order) 0 (map (widen (cell_size order)) rs) (omega arith)
    (IsSortedFrom-widened (cell_size order) (12 * 4 ^ order) 0 rs (cell_size-positive order) (cell_size-fills order le) normal (λ r rest e. omega arith))

in_span : (order p q : ℕ) → p < pixel_count → p / cell_size order ≡ q / cell_size order → set.contains (span order (q / cell_size order)) p ≡ true
in_span order p q lt same = contains-span order (q / cell_size order) p ∙ and_from (ltb p pixel_count) _ (lt-ltb p pixel_count lt) (eq-eqb _ _ same)

pub widened_is_degraded : (order : ℕ) (rs : List (ℕ × ℕ)) (a : NumberSet) (q : ℕ) → order ≤ 29 → IsNormal rs → set_of rs ≡ a → in_ranges (map (widen (cell_size order)) rs) q ≡ set.contains (degrade a order) q
widened_is_degraded order rs a q le normal is =
    let w = cell_size order in
    let some = cell_size-positive order in
    let holds : (p : ℕ) → set.contains a p ≡ in_ranges rs p = λ p. ap (λ s. set.contains s p) (sym is) ∙ contains-set_of rs p in
    elim (cases_Bool (in_ranges (map (widen w) rs) q)) [
      | inl found ↦
          let p = in_widened_from w rs q some normal found in
          let below = sorted_below 0 (map (widen w) rs) q (widened_sorted order rs le normal) found in
          let p_below : p.0 < pixel_count = normal_below rs p.0 normal p.1 in
          let met = meets-some a (span order (q / w)) p.0 (holds p.0 ∙ p.1) (in_span order p.0 q p_below p.2) in
          found ∙ sym (contains-degrade a order q ∙ and_from (ltb q pixel_count) _ (lt-ltb q pixel_count below) met)
      | inr none ↦
          let apart = meets-none a (span order (q / w)) (λ p. and_no (set.contains a p) _ (λ here.
          false_from_ne_true _ (λ there.
          let parts = and_parts (ltb p pixel_count) _ (sym (contains-span order (q / w) p) ∙ there) in
          false≢true (sym none ∙ in_widened w rs p q some (sym (holds p) ∙ here) (eqb-true _ _ parts.1))))) in
          none ∙ sym (contains-degrade a order q ∙ ap (λ b. ltb q pixel_count && b) apart ∙ and_false (ltb q pixel_count))
    ]

-- ---- the masks that the code uses

-- the bits above those of a cell
pub masked_to_multiple : (size n : ℕ) → IsCellSize size → n < 2 ^ 64 → bit_and n (18446744073709551615 - (size - 1)) ≡ n / size * size
masked_to_multiple size n is lt =
    let s = 2 * (29 - is.order) in
    let pow : 2 ^ s ≡ size = two_pow is.order ∙ sym is.is in
    let j = 64 - s in
    let sum : j + s ≡ 64 = omega arith in
    let some = pow_pos s in
    let fits_in : 2 ^ s ≤ 2 ^ 64 = pow-le-pow_right {n = 2} (omega arith) {i = s} {j = 64} (omega arith) in
    let mask : 18446744073709551615 - (size - 1) ≡ 2 ^ (j + s) - 2 ^ s = omega (arith, ap (λ e. 2 ^ e) sum) in
    let high : n < 2 ^ (j + s) = omega (arith, ap (λ e. 2 ^ e) sum) in
    ap (bit_and n) mask ∙ and_high n j s ∙ ap (λ m. m * 2 ^ s) (mod-eq_of_lt (shr_below n j s high)) ∙ ap (λ w. n / w * w) pow

-- a pixel's cell is within the pixels
pub widened_within_sky : (size p : ℕ) → IsCellSize size → p < pixel_count → p / size * size + size ≤ pixel_count
widened_within_sky size p is lt =
    let order = is.order in
    let size_is = is.is in
    let some = cell_size-positive order in
    let whole : 12 * 4 ^ order * size ≡ pixel_count = ap (λ w. 12 * 4 ^ order * w) size_is ∙ cell_size-fills order is.order_in_range in
    let below = div_below p size (12 * 4 ^ order) (omega arith) (omega arith) in
    let room : (p / size + 1) * size ≤ 12 * 4 ^ order * size = mul-le-mul_right size (omega arith) in
    omega arith

pub size_sorted : (size : ℕ) (rs : List (ℕ × ℕ)) → IsCellSize size → IsNormal rs → IsSortedFrom 0 (map (widen size) rs)
size_sorted size rs is normal = subst (λ (w : ℕ). IsSortedFrom 0 (map (widen w) rs)) (sym is.is) (widened_sorted is.order rs is.order_in_range normal)
