-- The number of cells of each order of a set, range by range.
use Rattle.std.proofs.Common.{◌≡◌, ℕ, zero, suc, ◌+◌, ◌-◌, ◌*◌, ◌/◌, ◌^◌, ◌<◌, ◌≤◌, List, [], ◌∷◌, length, map}
use Rattle.std.proofs.Common.{take, set, sum, replicate, refl, sym, ap, subst, ◌∙◌, inl, inr, arith, eqb, min, ◌%◌}
use Rattle.std.specs.Prelude.{slice_index, count_by, bit_or}
use Rattle.std.specs.Int.{w64, trailing_zeros}
use Rattle.std.specs.List.{filter, range_with_len}
use Rattle.std.proofs.lemmas.Bool.{cases_eq, cases_lt}
use Rattle.std.proofs.lemmas.Grind.{same_number_lists, get_or-set_at}
use Rattle.std.proofs.lemmas.List.{get_or-replicate, get_or-set_other, length-append, length-map, length-set, take_all}
use Rattle.std.proofs.lemmas.List.FromFn.{get_or-map-range_with_len, length-range_with_len}
use Rattle.std.proofs.lemmas.List.Sums.{count_by-le-length, length-filter, sum_by_more}
use Rattle.std.proofs.Math.Nat.{pow-succ', mul-le-mul_right, div-le_self}
use Rattle.std.proofs.lemmas.Nat.{div-mul-add, or_lt, pow_pos}
use Rattle.moc_sphere.specs.CellNumber.{CellNumber, cell_number, cell_count, cell_size}
use Rattle.moc_blocks.specs.RangeList.{NumberSet, pixel_count, set_of, IsNormal}
use Rattle.moc_ranges.specs.CellCounts.{counts_by_order, uniq_end}
use Rattle.moc_ranges.specs.Cells.{cells_of, cells_of_range, cells_below, is_cell_of}
use Rattle.moc_ranges.specs.Private.CellCounts.{cell_count_at, range_cell_count, AreCellCounts, AreAddedFrom, IsCounting}
use Rattle.moc_ranges.specs.Private.CellRuns.{AreInnerCells, cells_at}
use Rattle.moc_ranges.proofs.CellOrders.{Scanning, cells_step, low_zeros, multiple_of, none_at, or_multiple, scan_end}
use Rattle.moc_ranges.proofs.CellPieces.{cells_of_order, parents_are}
use Rattle.moc_ranges.proofs.CellRuns.{cells_split, count_bound, no_cells, run_one, run_top, run_two, two_pow, whole_is}

-- ---- the cells of one range

run_length : (k first end : ℕ) → length (cells_of_range k (first, end)) ≡ end - first
run_length k first end =
    length-map (range_with_len first (end - first)) (cell_number k) ∙ length-range_with_len first (end - first)

-- if no parent is inside the range, its cells of the order are all cells inside it
pub run_without_parents : (k from to first end : ℕ) → 0 < k → k ≤ 29 → from < to → to ≤ pixel_count
    → AreInnerCells k from to first end → end / 4 ≤ (first + 3) / 4 → range_cell_count from to k ≡ end - first
unfolding cell_count_at
run_without_parents k from to first end some small filled fits inner none =
    ap (λ (l : List CellNumber). length l) (run_one k from to first end ((first + 3) / 4) (end / 4) some small filled fits inner (parents_are k from to first end some small inner) none)
    ∙ run_length k first end

-- if parents are inside the range, its cells of the order are those before and after the parents' children
pub run_with_parents : (k from to first end : ℕ) → 0 < k → k ≤ 29 → from < to → to ≤ pixel_count
    → AreInnerCells k from to first end → (first + 3) / 4 < end / 4
    → range_cell_count from to k ≡ (4 * ((first + 3) / 4) - first) + (end - 4 * (end / 4))
unfolding cell_count_at
run_with_parents k from to first end some small filled fits inner more =
    let low = (first + 3) / 4 in
    let high = end / 4 in
    ap (λ (l : List CellNumber). length l) (run_two k from to first end low high some small filled fits inner (parents_are k from to first end some small inner) more)
    ∙ length-append (cells_of_range k (first, 4 * low)) (cells_of_range k (4 * high, end))
    ∙ (λ i. run_length k first (4 * low) i + run_length k (4 * high) end i)

-- of order 0, the cells of a range are those inside it
pub run_of_order_0 : (k from to first end : ℕ) → k ≡ 0 → from < to → to ≤ pixel_count
    → AreInnerCells k from to first end → range_cell_count from to k ≡ end - first
unfolding cell_count_at
run_of_order_0 k from to first end top filled fits inner =
    ap (λ (l : List CellNumber). length l) (run_top k from to first end top filled fits inner) ∙ run_length k first end

-- if no cell of an order is inside the range, it has no cells of this order and of lower orders
pub no_lower_cells : (k j from to first end : ℕ) → j ≤ k → k ≤ 29 → from < to → to ≤ pixel_count
    → AreInnerCells k from to first end → end ≤ first → range_cell_count from to j ≡ 0
no_lower_cells zero j from to first end le small filled fits inner none =
    let top : j ≡ 0 = omega arith in
    ap (range_cell_count from to) top ∙ run_of_order_0 0 from to first end refl filled fits inner ∙ omega arith
no_lower_cells (suc k) j from to first end le small filled fits inner none = elim (cases_eq j (suc k)) [
  | inl same ↦
      ap (range_cell_count from to) same
      ∙ run_without_parents (suc k) from to first end (omega arith) small filled fits inner (omega arith) ∙ omega arith
  | inr other ↦
      let before : suc k - 1 ≡ k = omega arith in
      let parents = parents_are (suc k) from to first end (omega arith) small inner in
      no_lower_cells k j from to ((first + 3) / 4) (end / 4) (omega arith) (omega arith) filled fits
      (subst (λ (n : ℕ). AreInnerCells n from to ((first + 3) / 4) (end / 4)) before parents) (omega arith)
]

-- ---- the orders that are skipped because the sizes of their parents' cells divide both ends of the range

module _ (from to skipped : ℕ) (filled : from < to) (fits_in : to ≤ pixel_count)
    (is : skipped ≡ min (trailing_zeros w64 (bit_or from to) / 2) 29) where
  ends_fit : bit_or from to < 2 ^ 64
  ends_fit = or_lt 64 from to (omega arith) (omega arith)

  divided : (from % 2 ^ (2 * skipped) ≡ 0) × (to % 2 ^ (2 * skipped) ≡ 0)
  divided = or_multiple from to (2 * skipped) (low_zeros (bit_or from to) (2 * skipped) ends_fit (omega arith))

  scanned : Scanning (bit_or from to) (to - from) [] ((from, to) ∷ [])
  scanned = record {
    normal = tt;
    multiples = λ s none rest. let m = or_multiple from to s none in (m.0, m.1, tt);
    narrow = λ n le rest. (omega arith, tt);
  }

  normal : IsNormal ((from, to) ∷ [])
  normal = (filled, fits_in, tt, tt)

  skipped_count : (k : ℕ) → 30 - skipped ≤ k → k ≤ 29 → range_cell_count from to k ≡ 0
  unfolding cell_count_at
  skipped_count k deep small = ap (λ (l : List CellNumber). length l)
      (none_at (set_of ((from, to) ∷ [])) _ _ k (scan_end (bit_or from to) (to - from) 64 ((from, to) ∷ []) scanned normal ends_fit (omega arith)) small (inr (omega arith)))

  -- nothing is to be added for the skipped orders
  pub skipped_added : (counts : List ℕ) → length counts ≡ 30 → AreAddedFrom (30 - skipped) from to counts counts
  skipped_added counts size = record {
    size = size;
    added = λ k deep small. omega (arith, skipped_count k deep small);
    unchanged = λ k lt. refl;
  }

  abbrev width : ℕ
  width = 2 ^ (2 * skipped)

  width_some : 0 < width
  width_some = pow_pos (2 * skipped)

  -- the cells of the first order that is not skipped
  pub skipped_inner : AreInnerCells (30 - skipped - 1) from to (from / width) (to / width)
  skipped_inner =
      let order : 29 - skipped ≡ 30 - skipped - 1 = omega arith in
      let levels : 29 - (29 - skipped) ≡ skipped = omega arith in
      let size : width ≡ cell_size (29 - skipped) = ap (λ n. 2 ^ (2 * n)) (sym levels) ∙ two_pow (29 - skipped) in
      let first : (from + (width - 1)) / width ≡ from / width =
      ap (λ n. (n + (width - 1)) / width) (multiple_of from width divided.0) ∙ div-mul-add (from / width) width (width - 1) (omega (arith, width_some)) in
      subst (λ (n : ℕ). AreInnerCells n from to (from / width) (to / width)) order
      (subst (λ (n : ℕ). AreInnerCells (29 - skipped) from to n (to / width)) first
      (whole_is (29 - skipped) width from to size (omega arith) fits_in))

  pub skipped_some : from / width < to / width
  skipped_some = elim (cases_lt (from / width) (to / width)) [
    | inl lt ↦ lt
    | inr ge ↦
        let le = mul-le-mul_right width ge in
        absurd (omega (arith, multiple_of from width divided.0, multiple_of to width divided.1, le))
  ]

  pub skipped_within : to / width ≤ pixel_count
  skipped_within = omega (arith, div-le_self to width)

-- ---- the counts while a range is added

-- the cells of one more order are added
pub added_order : (level k from to count : ℕ) (old new : List ℕ) → level ≡ suc k → k ≤ 29
    → AreAddedFrom level from to old new → range_cell_count from to k ≡ count
    → AreAddedFrom k from to old (set new k (slice_index new k + count))
added_order level k from to count old new up small so_far is = record {
  size = length-set new k (slice_index new k + count) ∙ so_far.size;
  added = λ j ge le. elim (cases_eq j k) [
    | inl same ↦
        get_or-set_at new k j (slice_index new k + count) 0 same (omega (arith, so_far.size))
        ∙ (λ i. so_far.unchanged k (omega arith) i + sym is i)
        ∙ ap (λ (n : ℕ). slice_index old n + range_cell_count from to n) (sym same)
    | inr other ↦
        get_or-set_other new k j (slice_index new k + count) 0 other ∙ so_far.added j (omega arith) le
  ];
  unchanged = λ j lt. get_or-set_other new k j (slice_index new k + count) 0 (λ e. omega arith) ∙ so_far.unchanged j (omega arith);
}

-- the lower orders have no cells
pub added_all : (k from to : ℕ) (old new : List ℕ) → AreAddedFrom k from to old new
    → ((j : ℕ) → j < k → range_cell_count from to j ≡ 0) → AreAddedFrom 0 from to old new
added_all k from to old new so_far none = record {
  size = so_far.size;
  added = λ j ge le. elim (cases_lt j k) [
    | inl lower ↦ so_far.unchanged j lower ∙ omega (arith, none j lower)
    | inr upper ↦ so_far.added j upper le
  ];
  unchanged = λ j lt. absurd (omega arith);
}

-- ---- the counts of several ranges

pub none_counted : (a : NumberSet) (rs : List (ℕ × ℕ)) → set_of rs ≡ a → IsNormal rs → IsCounting a rs (replicate 30 0)
none_counted a rs is normal = record {
  normal = normal;
  size = refl;
  each = λ k small. omega (arith, get_or-replicate {A = ℕ} 30 k 0 0 (omega arith), ap (λ (b : NumberSet). cell_count_at b k) is);
}

-- the cells of an order of a list of ranges
split_count : (r : ℕ × ℕ) (rs : List (ℕ × ℕ)) (k : ℕ) → IsNormal (r ∷ rs) → k ≤ 29
    → cell_count_at (set_of (r ∷ rs)) k ≡ range_cell_count r.0 r.1 k + cell_count_at (set_of rs) k
unfolding cell_count_at
split_count r rs k normal small =
    ap (λ (l : List CellNumber). length l) (cells_split r rs k normal small) ∙ length-append (cells_at (set_of (r ∷ [])) k) (cells_at (set_of rs) k)

-- a set has at most all cells of an order
cell_count_bounded : (a : NumberSet) (k : ℕ) → k ≤ 29 → cell_count_at a k ≤ pixel_count
unfolding cell_count_at cells_at
cell_count_bounded a k small =
    let all = map (cell_number k) (range_with_len 0 (cell_count k)) in
    omega (
      arith,
      length-filter (is_cell_of a) all,
      count_by-le-length (is_cell_of a) all,
      length-map (range_with_len 0 (cell_count k)) (cell_number k),
      length-range_with_len 0 (cell_count k),
      count_bound k small,
    )

-- the counts have capacity for the cells of the next range
pub count_fits : (a : NumberSet) (r : ℕ × ℕ) (rs : List (ℕ × ℕ)) (counts : List ℕ) → IsCounting a (r ∷ rs) counts
    → (k : ℕ) → k ≤ 29 → slice_index counts k + range_cell_count r.0 r.1 k ≤ pixel_count
count_fits a r rs counts so_far k small =
    omega (arith, so_far.each k small, split_count r rs k so_far.normal small, cell_count_bounded a k small)

-- the cells of one more range are counted
pub range_counted : (a : NumberSet) (r : ℕ × ℕ) (rs : List (ℕ × ℕ)) (counts more : List ℕ) → IsCounting a (r ∷ rs) counts
    → AreAddedFrom 0 r.0 r.1 counts more → IsCounting a rs more
range_counted a r rs counts more so_far adds = record {
  normal = so_far.normal.3;
  size = adds.size;
  each = λ k small.
      omega (arith, so_far.each k small, split_count r rs k so_far.normal small, adds.added k (omega arith) small);
}

no_count : (k : ℕ) → k ≤ 29 → cell_count_at (set_of []) k ≡ 0
unfolding cell_count_at
no_count k small = ap (λ (l : List CellNumber). length l) (no_cells k small)

-- all ranges are counted
pub all_counted : (a : NumberSet) (counts : List ℕ) → IsCounting a [] counts → AreCellCounts a counts
all_counted a counts so_far = record {
  size = so_far.size;
  each = λ k small. omega (arith, so_far.each k small, no_count k small);
}

-- ---- the counts of a set

order_count : (a : NumberSet) (k : ℕ) → k ≤ 29 → cell_count_at a k ≡ count_by (λ c. eqb c.order k) (cells_of a)
unfolding cell_count_at
order_count a k small =
    ap (λ (l : List CellNumber). length l) (cells_of_order a k small) ∙ length-filter (λ c. eqb c.order k) (cells_of a)

pub counts_are : (a : NumberSet) (counts : List ℕ) → AreCellCounts a counts → counts ≡ counts_by_order (cells_of a)
unfolding counts_by_order
counts_are a counts has =
    same_number_lists counts (counts_by_order (cells_of a)) has.size (λ k within.
    let small : k < 30 = omega (arith, within, has.size) in
    has.each k (omega arith) ∙ order_count a k (omega arith)
    ∙ sym (get_or-map-range_with_len (λ n. count_by (λ c. eqb c.order n) (cells_of a)) 0 30 k k 0 small (omega arith)))

none_below : (a : NumberSet) → length (filter (is_cell_of a) (cells_below 0)) ≡ 0
unfolding cells_below
none_below a = refl

all_below : (a : NumberSet) → length (filter (is_cell_of a) (cells_below 30)) ≡ length (cells_of a)
unfolding cells_of
all_below a = refl

count_step : (a : NumberSet) (k : ℕ)
    → length (filter (is_cell_of a) (cells_below (suc k))) ≡ length (filter (is_cell_of a) (cells_below k)) + cell_count_at a k
unfolding cell_count_at
count_step a k =
    ap (λ (l : List CellNumber). length l) (cells_step a k) ∙ length-append (filter (is_cell_of a) (cells_below k)) (cells_at a k)

-- the sum of the first counts
sum_below : (a : NumberSet) (counts : List ℕ) (n : ℕ) → AreCellCounts a counts → n ≤ 30
    → sum (take n counts) ≡ length (filter (is_cell_of a) (cells_below n))
sum_below a counts zero has small = sym (none_below a)
sum_below a counts (suc k) has small =
    let one : suc k ≡ k + 1 = omega arith in
    ap (λ (n : ℕ). sum (take n counts)) one
    ∙ sum_by_more (λ (x : ℕ). x) counts k 0 (omega (arith, has.size))
    ∙ (λ i. sum_below a counts k has (omega arith) i + has.each k (omega arith) i)
    ∙ sym (count_step a k)

pub total_is : (a : NumberSet) (counts : List ℕ) → AreCellCounts a counts → sum counts ≡ length (cells_of a)
total_is a counts has =
    ap (λ (l : List ℕ). sum l) (sym (take_all 30 counts (omega (arith, has.size))))
    ∙ sum_below a counts 30 has (omega arith) ∙ all_below a

-- the number of all cells of the first orders
cells_below-length : (n : ℕ) → length (cells_below n) + 4 ≡ 4 * 4 ^ n
unfolding cells_below
cells_below-length zero = refl
cells_below-length (suc k) =
    let here = range_with_len 0 (cell_count k) in
    omega (
      arith,
      length-append (cells_below k) (map (cell_number k) here),
      length-map here (cell_number k),
      length-range_with_len 0 (cell_count k),
      cells_below-length k,
      pow-succ' 4 k,
    )

pub total_bounded : (a : NumberSet) (counts : List ℕ) → AreCellCounts a counts → sum counts < uniq_end
total_bounded a counts has =
    omega (
      arith,
      total_is a counts has,
      all_below a,
      length-filter (is_cell_of a) (cells_below 30),
      count_by-le-length (is_cell_of a) (cells_below 30),
      cells_below-length 30,
    )
