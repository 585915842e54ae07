-- Lemmas on pixels and their cells, for the proofs of callers.
pub mod Cells
pub mod Members
pub mod Pixels
pub mod Ranges
pub mod Sets
use Rattle.std.proofs.Common.{◌≡◌, ℕ, ◌/◌, ◌*◌, ◌+◌, ◌<◌, ◌≤◌, Bool, true, false, ◌||◌, ◌&&◌, List, [], ◌∷◌, ◌++◌, map}
use Rattle.std.proofs.Common.{refl, sym, ap, ◌∙◌, arith, inl, inr, div-lt_iff_lt-mul}
use Rattle.std.specs.Prelude.{nat_le, nat_lt, nat_eq}
use Rattle.std.specs.List.{AllByRecursion}
use Rattle.std.specs.FinSet as set
use Rattle.std.specs.Cmp.{nat_cmp_total}
use Rattle.std.specs.Ordering.{nat_cmp}
use Rattle.std.proofs.lemmas.Bool.Decides.{nat_tests}
use Rattle.std.proofs.lemmas.Bool.{cases_lt, leb-true, lt-ltb}
use Rattle.std.proofs.lemmas.Nat.{div-add-mod', mod_below, mul-le}
use Rattle.moc_sphere.specs.CellNumber.{CellNumber, IsCell, cell_count, cell_size}
use Rattle.moc_sphere.specs.Lemmas.{cell_size-positive, cell_size-fills}
use Rattle.moc_blocks.specs.RangeList.{NumberSet, numbers, pixel_count, set_of}
use Rattle.moc_blocks.specs.Lemmas.Members.{contains-numbers, same_members, in_range, or_assoc, or_false}
use Rattle.moc_ranges.specs.Lemmas.Members.{contains-span, contains-spans, cell_range}
use Rattle.moc_ranges.specs.Operations.{base_pixel_size, pixels, IsWithin}
use Rattle.moc_ranges.specs.Cells.{span, spans, pixels_of, cells_of}
use Rattle.moc_ranges.specs.Lemmas.Cells.{cells_are}
use Rattle.moc_ranges.specs.Lemmas.Cells as by_ranges

-- ---- unions

pub in_union : (a b : NumberSet) (q : ℕ) → set.contains (set.union a b) q ≡ (set.contains a q || set.contains b q)
in_union a b q = set.contains-union nat_cmp_total a b q

-- union is associative
pub union-assoc : (a b c : NumberSet) → set.union (set.union a b) c ≡ set.union a (set.union b c)
union-assoc a b c = same_members _ _ (λ q.
    in_union (set.union a b) c q ∙ ap (λ t. t || set.contains c q) (in_union a b q)
    ∙ or_assoc (set.contains a q) (set.contains b q) (set.contains c q)
    ∙ ap (λ t. set.contains a q || t) (sym (in_union b c q)) ∙ sym (in_union a (set.union b c) q))

-- the union of the empty set and a set
pub empty-union : (a : NumberSet) → set.union set.empty a ≡ a
empty-union a =
    same_members _ _ (λ q. in_union set.empty a q ∙ ap (λ t. t || set.contains a q) (set.contains-empty nat_cmp q))

-- the union of a set and the empty set
pub union-empty : (a : NumberSet) → set.union a set.empty ≡ a
union-empty a = same_members _ _ (λ q.
    in_union a set.empty q
    ∙ ap (λ t. set.contains a q || t) (set.contains-empty nat_cmp q)
    ∙ or_false (set.contains a q))

-- ---- base pixels

-- each pixel is in one of the twelve base pixels
pub in_base_pixels : (q : ℕ) → nat_lt q pixel_count ≡ true → q / base_pixel_size < 12
in_base_pixels q lt =
    (div-lt_iff_lt-mul {k = base_pixel_size} {x = q} {y = 12} (omega arith)).1 (grind (arith, nat_tests))

-- a number in one of the base pixels is a pixel
pub is_pixel : (q : ℕ) → q / base_pixel_size < 12 → nat_lt q pixel_count ≡ true
is_pixel q lt =
    let below = (div-lt_iff_lt-mul {k = base_pixel_size} {x = q} {y = 12} (omega arith)).0 lt in
    lt-ltb q pixel_count (omega arith)

-- ---- cells

starts : (first w q i : ℕ) → i * w ≤ q → q < i * w + w → nat_le (first * w) q ≡ nat_le first i
starts first w q i low high = elim (cases_lt i first) [
  | inl before ↦
      let next = mul-le (i + 1) w first w (omega arith) (omega arith) in
      let one : (i + 1) * w ≡ i * w + w = omega arith in
      let later : q < first * w = omega arith in
      grind (arith, nat_tests)
  | inr from ↦
      let here = mul-le first w i w from (omega arith) in
      let there : first * w ≤ q = omega arith in
      grind (arith, nat_tests)
]

ends : (last w q i : ℕ) → i * w ≤ q → q < i * w + w → nat_lt q ((last + 1) * w) ≡ nat_le i last
ends last w q i low high = elim (cases_lt last i) [
  | inl past ↦
      let here = mul-le (last + 1) w i w (omega arith) (omega arith) in
      let there : (last + 1) * w ≤ q = omega arith in
      grind (arith, nat_tests)
  | inr up_to ↦
      let next = mul-le (i + 1) w (last + 1) w (omega arith) (omega arith) in
      let one : (i + 1) * w ≡ i * w + w = omega arith in
      let before : q < (last + 1) * w = omega arith in
      grind (arith, nat_tests)
]

-- a number is in a run of cells if its cell is
in_run : (first last w q i : ℕ) → i * w ≤ q → q < i * w + w
    → in_range (first * w, (last + 1) * w) q ≡ (nat_le first i && nat_le i last)
in_run first last w q i low high = (λ j. starts first w q i low high j && ends last w q i low high j)

-- the cells of an order are within the pixels
run_within : (k last q : ℕ) → k ≤ 29 → last < cell_count k → nat_le (q / cell_size k) last ≡ true
    → nat_lt q pixel_count ≡ true
run_within k last q small fits in_run =
    let w = cell_size k in
    let split = div-add-mod' q w in
    let rest = mod_below q w (cell_size-positive k) in
    let before : q / w ≤ last = leb-true _ _ in_run in
    let next = mul-le (q / w + 1) w (cell_count k) w (omega arith) (omega arith) in
    let one : (q / w + 1) * w ≡ q / w * w + w = omega arith in
    lt-ltb q pixel_count (omega (arith, cell_size-fills k small))

below_all : (a b lt : Bool) → (b ≡ true → lt ≡ true) → (a && b) ≡ (lt && (a && b))
below_all a true true say = refl
below_all a true false say = absurd (let no = say refl in cc)
below_all true false true say = refl
below_all true false false say = refl
below_all false false true say = refl
below_all false false false say = refl

-- the pixels of a run of cells
pub run_of_cells : (k first last q : ℕ) → k ≤ 29 → last < cell_count k
    → in_range (first * cell_size k, (last + 1) * cell_size k) q ≡ set.contains (spans k first last) q
run_of_cells k first last q small fits =
    let w = cell_size k in
    let split = div-add-mod' q w in
    let rest = mod_below q w (cell_size-positive k) in
    in_run first last w q (q / w) (omega arith) (omega arith)
    ∙ below_all (nat_le first (q / w)) (nat_le (q / w) last) (nat_lt q pixel_count) (run_within k last q small fits)
    ∙ sym (contains-spans k first last q)

between : (index i : ℕ) → (nat_le index i && nat_le i index) ≡ nat_eq i index
between index i = grind (arith, nat_tests)

-- one cell is a run of cells
pub spans-one : (order index : ℕ) → spans order index index ≡ span order index
spans-one order index = same_members _ _ (λ q.
    contains-spans order index index q
    ∙ ap (λ b. nat_lt q pixel_count && b) (between index (q / cell_size order))
    ∙ sym (contains-span order index q))

-- the pixels of two concatenated lists of cells
pub pixels_of-append : (xs ys : List CellNumber) → pixels_of (xs ++ ys) ≡ set.union (pixels_of xs) (pixels_of ys)
unfolding pixels_of
pixels_of-append [] ys = sym (empty-union (pixels_of ys))
pixels_of-append (c ∷ xs) ys =
    ap (λ a. set.union (span c.order c.index) a) (pixels_of-append xs ys)
    ∙ sym (union-assoc (span c.order c.index) (pixels_of xs) (pixels_of ys))

span_numbers : (c : CellNumber) → IsCell c
    → span c.order c.index ≡ numbers (c.index * cell_size c.order) ((c.index + 1) * cell_size c.order)
span_numbers c is = same_members _ _ (λ q.
    ap (λ a. set.contains a q) (sym (spans-one c.order c.index))
    ∙ sym (run_of_cells c.order c.index c.index q is.order_in_range is.index_in_range)
    ∙ sym (contains-numbers (c.index * cell_size c.order) ((c.index + 1) * cell_size c.order) q))

-- the pixels of cells, as ranges
pub pixels_of-ranges : (cells : List CellNumber) → AllByRecursion IsCell cells
    → pixels_of cells ≡ set_of (map cell_range cells)
unfolding pixels_of set_of
pixels_of-ranges [] are = refl
pixels_of-ranges (c ∷ cells) are = (λ i. set.union (span_numbers c are.0 i) (pixels_of-ranges cells are.1 i))

-- the cells of a set of pixels have all its pixels
pub cells_fill : (a : NumberSet) → IsWithin a pixels → pixels_of (cells_of a) ≡ a
cells_fill a within = pixels_of-ranges (cells_of a) (cells_are a) ∙ by_ranges.cells_fill a within
