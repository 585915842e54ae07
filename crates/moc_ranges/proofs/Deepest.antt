-- The least order at which a set is a union of cells: the least order whose cell size divides all bounds.
use Rattle.std.proofs.Common.{◌≡◌, ℕ, zero, suc, ◌+◌, ◌-◌, ◌*◌, ◌/◌, ◌%◌, ◌^◌, ◌<◌, ◌≤◌, true, List, [], ◌∷◌, min, leb}
use Rattle.std.proofs.Common.{ltb, refl, sym, ap, subst, ◌∙◌, inl, inr, arith, map}
use Rattle.std.specs.Prelude.{bit_or}
use Rattle.std.specs.FinSet as set
use Rattle.std.specs.Int.{w64, trailing_zeros, bit_at}
use Rattle.std.specs.Int.Count.{count_trailing_zeros}
use Rattle.std.proofs.lemmas.Bool.{and_parts, cases_eq, cases_lt, ltb-true, or_cases, or_right, false≢true}
use Rattle.std.proofs.lemmas.Nat.{div-add-mod', mod_below, mod-pow-add, or_mod, pow_pos}
use Rattle.std.proofs.lemmas.Nat.Bits.{bit_at-trailing_zeros}
use Rattle.moc_sphere.specs.CellNumber.{cell_size}
use Rattle.moc_sphere.specs.Lemmas.{cell_size-positive}
use Rattle.moc_blocks.specs.RangeList.{NumberSet, set_of, IsNormal}
use Rattle.moc_blocks.specs.Lemmas.Members.{same_members, contains-set_of, in_range, in_ranges}
use Rattle.moc_ranges.specs.Cells.{degrade}
use Rattle.moc_blocks.specs.Lemmas.Ranges.{later_only}
use Rattle.moc_ranges.specs.Lemmas.Ranges.{in_first, not_before, at_end}
use Rattle.moc_ranges.specs.Private.Widen.{widen}
use Rattle.moc_ranges.proofs.CellRuns.{two_pow}
use Rattle.moc_ranges.proofs.CellOrders.{AllMultiples, multiple_of, or_multiple, low_zeros}
use Rattle.moc_ranges.proofs.Widening.{widened_is_degraded, in_widened, increases, same_quotient}

-- ---- a set whose bounds are multiples of a cell size is a union of such cells

-- the multiple of w below a multiple is the start of the last number's cell
last_floor : (w t : ℕ) → 0 < w → 0 < t → t % w ≡ 0 → (t - 1) / w * w + w ≡ t
last_floor w t pos some none =
    let c = t / w - 1 in
    let is : t ≡ t / w * w = multiple_of t w none in
    let more : 0 < t / w = not_none w (t / w) t is some in
    let next : t / w ≡ c + 1 = omega arith in
    let at : t ≡ (c + 1) * w = is ∙ ap (λ n. n * w) next in
    let out : (c + 1) * w ≡ c * w + w = omega arith in
    ap (λ n. n * w + w) (same_quotient w c (t - 1) pos (omega arith) (omega arith)) ∙ sym out ∙ sym at
  where
    not_none : (w n t : ℕ) → t ≡ n * w → 0 < t → 0 < n
    not_none w zero t is some = absurd (omega arith)
    not_none w (suc n) t is some = omega arith

widen_aligned : (w : ℕ) (r : ℕ × ℕ) → 0 < w → r.0 < r.1 → r.0 % w ≡ 0 → r.1 % w ≡ 0 → widen w r ≡ r
widen_aligned w r pos some low high =
    let from : r.0 / w * w ≡ r.0 = sym (multiple_of r.0 w low) in
    let to : (r.1 - 1) / w * w + w ≡ r.1 = last_floor w r.1 pos (omega arith) high in
    λ i. (from i, to i)

map-widen : (w : ℕ) (rs : List (ℕ × ℕ)) → 0 < w → IsNormal rs → AllMultiples w rs → map (widen w) rs ≡ rs
map-widen w [] pos normal all = refl
map-widen w (r ∷ rs) pos normal all =
    λ i. widen_aligned w r pos normal.0 all.0 all.1 i ∷ map-widen w rs pos normal.3 all.2 i

pub degrade_of_multiples : (k : ℕ) (rs : List (ℕ × ℕ)) → k ≤ 29 → IsNormal rs → AllMultiples (cell_size k) rs → degrade (set_of rs) k ≡ set_of rs
degrade_of_multiples k rs small normal all = same_members _ _ (λ q.
    sym (widened_is_degraded k rs (set_of rs) q small normal refl)
    ∙ ap (λ (ss : List (ℕ × ℕ)). in_ranges ss q) (map-widen (cell_size k) rs (cell_size-positive k) normal all)
    ∙ sym (contains-set_of rs q))

-- ---- no other set is such a union

-- with a number, the ranges contain all of its cell of size w
abbrev HaveWholeCells : ℕ → List (ℕ × ℕ) → Type 0
HaveWholeCells w rs = (p q : ℕ) → in_ranges rs p ≡ true → p / w ≡ q / w → in_ranges rs q ≡ true

inner_cells : (k : ℕ) (rs : List (ℕ × ℕ)) → k ≤ 29 → IsNormal rs → degrade (set_of rs) k ≡ set_of rs → HaveWholeCells (cell_size k) rs
inner_cells k rs small normal same = λ p q has cell.
    sym (contains-set_of rs q)
    ∙ ap (λ (a : NumberSet). set.contains a q) (sym same)
    ∙ sym (widened_is_degraded k rs (set_of rs) q small normal refl)
    ∙ in_widened (cell_size k) rs p q (cell_size-positive k) has cell

-- a number that is not a multiple is in the cell of the number before it
same_before : (w n : ℕ) → 0 < w → 0 < n % w → (n - 1) / w ≡ n / w
same_before w n pos some =
    let parts = div-add-mod' n w in
    let below = mod_below n w pos in
    same_quotient w (n / w) (n - 1) pos (omega arith) (omega arith)

range_below : (r : ℕ × ℕ) (q : ℕ) → in_range r q ≡ true → q < r.1
range_below r q e = ltb-true q r.1 (and_parts (leb r.0 q) (ltb q r.1) e).1

module _ (w : ℕ) (r : ℕ × ℕ) (rs : List (ℕ × ℕ)) (pos : 0 < w) (normal : IsNormal (r ∷ rs)) (whole : HaveWholeCells w (r ∷ rs)) where
  from_multiple : r.0 % w ≡ 0
  from_multiple = elim (cases_eq (r.0 % w) 0) [
    | inl none ↦ none
    | inr some ↦
        let more : 0 < r.0 % w = omega arith in
        let first : 0 < r.0 = omega (arith, div-add-mod' r.0 w) in
        let has = whole r.0 (r.0 - 1) (in_first r rs r.0 (omega arith) (omega (arith, normal.0))) (sym (same_before w r.0 pos more)) in
        absurd (false≢true (sym (not_before r rs normal (r.0 - 1) (omega arith)) ∙ has))
  ]

  to_multiple : r.1 % w ≡ 0
  to_multiple = elim (cases_eq (r.1 % w) 0) [
    | inl none ↦ none
    | inr some ↦
        let more : 0 < r.1 % w = omega arith in
        let has = whole (r.1 - 1) r.1 (in_first r rs (r.1 - 1) (omega (arith, normal.0)) (omega (arith, normal.0))) (same_before w r.1 pos more) in
        absurd (false≢true (sym (at_end r rs normal) ∙ has))
  ]

  -- no cell extends across the gap after a range
  later_whole : HaveWholeCells w rs
  later_whole = λ p q has cell. elim (or_cases (in_range r q) (in_ranges rs q) (whole p q (or_right (in_range r p) (in_ranges rs p) has) cell)) [
    | inl here ↦
        elim (cases_lt r.1 p) [
          | inl past ↦
              let inside = range_below r q here in
              let a = increases w q r.1 pos (omega arith) in
              let b = increases w r.1 p pos (omega arith) in
              let between : p / w ≡ r.1 / w = omega arith in
              absurd (false≢true (sym (at_end r rs normal) ∙ whole p r.1 (or_right (in_range r p) (in_ranges rs p) has) between))
          | inr le ↦ absurd (false≢true (sym (later_only r.1 p rs normal.3 normal.2 le) ∙ has))
        ]
    | inr later ↦ later
  ]

all_multiples : (w : ℕ) (rs : List (ℕ × ℕ)) → 0 < w → IsNormal rs → HaveWholeCells w rs → AllMultiples w rs
all_multiples w [] pos normal whole = tt
all_multiples w (r ∷ rs) pos normal whole =
    (from_multiple w r rs pos normal whole, to_multiple w r rs pos normal whole, all_multiples w rs pos normal.3 (later_whole w r rs pos normal whole))

pub multiples_of_degrade : (k : ℕ) (rs : List (ℕ × ℕ)) → k ≤ 29 → IsNormal rs → degrade (set_of rs) k ≡ set_of rs → AllMultiples (cell_size k) rs
multiples_of_degrade k rs small normal same =
    all_multiples (cell_size k) rs (cell_size-positive k) normal (inner_cells k rs small normal same)

-- ---- the invariant of the scan

-- a power of two divides the scanned number and the remaining bounds exactly if it divides all bounds
pub record Bounding (ends : ℕ) (rest whole : List (ℕ × ℕ)) : Type 0 where
  pub multiples : (s : ℕ) → ends % 2 ^ s ≡ 0 → AllMultiples (2 ^ s) rest → AllMultiples (2 ^ s) whole
  pub divided : (s : ℕ) → AllMultiples (2 ^ s) whole → (ends % 2 ^ s ≡ 0) × AllMultiples (2 ^ s) rest

pub bounding_start : (rs : List (ℕ × ℕ)) → Bounding 0 rs rs
bounding_start rs = record { multiples = λ s none all. all; divided = λ s all. (zero_mod (2 ^ s), all) }
  where
    zero_mod : (n : ℕ) → 0 % n ≡ 0
    zero_mod n = omega arith

both_multiples : (a b s : ℕ) → a % 2 ^ s ≡ 0 → b % 2 ^ s ≡ 0 → bit_or a b % 2 ^ s ≡ 0
both_multiples a b s low high = or_mod a b s ∙ (λ i. bit_or (low i) (high i))

pub bounding_step : (ends : ℕ) (r : ℕ × ℕ) (rest whole : List (ℕ × ℕ)) → Bounding ends (r ∷ rest) whole → Bounding (bit_or ends (bit_or r.0 r.1)) rest whole
bounding_step ends r rest whole b = record {
  multiples = λ s none all.
      let outer = or_multiple ends (bit_or r.0 r.1) s none in
      let inner = or_multiple r.0 r.1 s outer.1 in
      b.multiples s outer.0 (inner.0, inner.1, all);
  divided = λ s all.
      let d = b.divided s all in
      (both_multiples ends (bit_or r.0 r.1) s d.0 (both_multiples r.0 r.1 s d.1.0 d.1.1), d.1.2);
}

-- ---- the order from the trailing zeros

-- a power of two that divides a number has at most the exponent of its trailing zeros
zeros_at_least : (n j : ℕ) → 0 < n → n < 2 ^ 64 → n % 2 ^ j ≡ 0 → j ≤ trailing_zeros w64 n
zeros_at_least n j some fits none = elim (cases_lt (trailing_zeros w64 n) j) [
  | inl less ↦
      let z = trailing_zeros w64 n in
      let d = j - (z + 1) in
      let split : j ≡ d + (z + 1) = omega arith in
      let low : n % 2 ^ (z + 1) ≡ 0 = rest_none n d (z + 1) (ap (λ e. n % 2 ^ e) (sym split) ∙ none) in
      let turned : n % 2 ^ (1 + z) ≡ 0 = ap (λ e. n % 2 ^ e) (omega arith) ∙ low in
      let bit = (bit_at-trailing_zeros w64 n some fits).1 in
      absurd (bit_none n z bit turned)
  | inr le ↦ le
]
  where
    rest_none : (n d k : ℕ) → n % 2 ^ (d + k) ≡ 0 → n % 2 ^ k ≡ 0
    rest_none n d k none = omega (arith, mod-pow-add n d k)

    bit_none : (n z : ℕ) → bit_at n z ≡ 1 → n % 2 ^ (1 + z) ≡ 0 → ⊥
    bit_none n z bit none =
        let split : n % 2 ^ (1 + z) ≡ n / 2 ^ z % 2 * 2 ^ z + n % 2 ^ z = mod-pow-add n 1 z in
        let one : n / 2 ^ z % 2 * 2 ^ z ≡ 1 * 2 ^ z = ap (λ b. b * 2 ^ z) bit in
        omega (arith, pow_pos z)

pub order_whole : (k ends : ℕ) (rs : List (ℕ × ℕ)) → Bounding ends [] rs → IsNormal rs → ends < 2 ^ 64 → k ≡ 29 - min (trailing_zeros w64 ends / 2) 29 → degrade (set_of rs) k ≡ set_of rs
order_whole k ends rs b normal fits is =
    let low = low_zeros ends (2 * (29 - k)) fits (omega arith) in
    degrade_of_multiples k rs (omega arith) normal (subst (λ (w : ℕ). AllMultiples w rs) (two_pow k) (b.multiples (2 * (29 - k)) low tt))

no_digit : trailing_zeros w64 0 ≡ 64
unfolding count_trailing_zeros
no_digit = refl

pub order_least : (k ends : ℕ) (rs : List (ℕ × ℕ)) → Bounding ends [] rs → IsNormal rs → ends < 2 ^ 64 → degrade (set_of rs) k ≡ set_of rs → 29 - min (trailing_zeros w64 ends / 2) 29 ≤ k
order_least k zero rs b normal fits same = omega (arith, no_digit)
order_least k (suc n) rs b normal fits same = elim (cases_lt 29 k) [
  | inl deep ↦ omega arith
  | inr small ↦
      let all = subst (λ (w : ℕ). AllMultiples w rs) (sym (two_pow k)) (multiples_of_degrade k rs small normal same) in
      let zeros = zeros_at_least (suc n) (2 * (29 - k)) (omega arith) fits (b.divided (2 * (29 - k)) all).0 in
      omega arith
]
