-- Lemmas on the cells of a set: they are cells, in ascending NUNIQ, and have exactly the pixels of the set.
use Rattle.std.proofs.Common.{◌≡◌, ℕ, zero, suc, ◌+◌, ◌-◌, ◌*◌, ◌/◌, ◌^◌, ◌<◌, ◌≤◌, Bool, true, false, cond}
use Rattle.std.proofs.Common.{List, [], ◌∷◌, ◌++◌, get_or, map, refl, sym, ap, subst, ◌∙◌, inl, inr, arith}
use Rattle.std.specs.Prelude.{nat_le, nat_lt, ⊤}
use Rattle.std.specs.FinSet as set
use Rattle.std.specs.Cmp.{nat_cmp_total}
use Rattle.std.specs.List.{AllByRecursion, filter, range_with_len}
use Rattle.std.specs.List.Sorted.{IsStrictlyIncreasing}
use Rattle.std.proofs.lemmas.Bool.{cases_Bool, cases_eq, and_parts, and_from, or_cases, or_left, or_right, lt-ltb}
use Rattle.std.proofs.lemmas.Bool.{ltb-true, le-leb, leb-true, eq-eqb, eqb-true, not_from_false, false≢true}
use Rattle.std.proofs.lemmas.List.{map-append}
use Rattle.std.proofs.lemmas.List.Elements.{filter-append}
use Rattle.std.proofs.lemmas.Nat.{div_below, div-mul-add, div-add-mod', mod_below, mul-le}
use Rattle.std.proofs.Math.Nat.{div-div-eq-div-mul, pow-succ'}
use Rattle.moc_sphere.specs.CellNumber.{CellNumber, cell_number, cell_count, cell_size, IsCell, uniq_of}
use Rattle.moc_sphere.specs.Lemmas.{cell_size-positive, cell_size-fills}
use Rattle.moc_blocks.specs.RangeList.{NumberSet, pixel_count, set_of}
use Rattle.moc_blocks.specs.Lemmas.Members.{same_members, contains-set_of, in_range, in_ranges, in_ranges-append}
use Rattle.moc_ranges.specs.Lemmas.Members.{contains-pixels, same_truth, contains-span, cell_range}
use Rattle.moc_ranges.specs.Operations.{pixels, IsWithin}
use Rattle.moc_ranges.specs.Cells.{span, is_cell_of, cells_below, cells_of}
use Rattle.moc_ranges.specs.Private.SortedCells.{AllUniqFrom, IsSortedUniq}

-- ---- cells

AllByRecursion-append : {X : Type 0} (P : X → Type 0) (xs ys : List X) → AllByRecursion P xs → AllByRecursion P ys
    → AllByRecursion P (xs ++ ys)
AllByRecursion-append P [] ys all more = more
AllByRecursion-append P (x ∷ xs) ys all more = (all.0, AllByRecursion-append P xs ys all.1 more)

AllByRecursion-filter : {X : Type 0} (P : X → Type 0) (p : X → Bool) (xs : List X) → AllByRecursion P xs
    → AllByRecursion P (filter p xs)
AllByRecursion-filter P p [] all = tt
AllByRecursion-filter P p (x ∷ xs) all =
    let rest = AllByRecursion-filter P p xs all.1 in
    elim (p x) as (λ b. AllByRecursion P (cond b (x ∷ filter p xs) (filter p xs))) [
      | true ↦ (all.0, rest)
      | false ↦ rest
    ]

cells_of_order : (k from n : ℕ) → k ≤ 29 → from + n ≤ cell_count k
    → AllByRecursion IsCell (map (cell_number k) (range_with_len from n))
cells_of_order k from zero small fits = tt
cells_of_order k from (suc n) small fits =
    (record { order_in_range = small; index_in_range = omega arith }, cells_of_order k (from + 1) n small (omega arith))

cells_below-are : (orders : ℕ) → orders ≤ 30 → AllByRecursion IsCell (cells_below orders)
unfolding cells_below
cells_below-are zero small = tt
cells_below-are (suc k) small =
    AllByRecursion-append IsCell (cells_below k) _ (cells_below-are k (omega arith))
    (cells_of_order k 0 (cell_count k) (omega arith) (omega arith))

-- the cells of a set are cells
pub cells_are : (a : NumberSet) → AllByRecursion IsCell (cells_of a)
unfolding cells_of
cells_are a = AllByRecursion-filter IsCell (is_cell_of a) (cells_below 30) (cells_below-are 30 (omega arith))

-- ---- the pixels of a cell

-- a number whose cell of size w is i is in the range of this cell
pub in_cell_range : (i w q : ℕ) → 0 < w → q / w ≡ i → in_range (i * w, (i + 1) * w) q ≡ true
in_cell_range i w q pos is =
    let f = div-add-mod' q w in
    let g : q / w * w ≡ i * w = ap (λ n. n * w) is in
    let small = mod_below q w pos in
    let low : i * w ≤ q = omega arith in
    let next : (i + 1) * w ≡ i * w + w = omega arith in
    let high : q < (i + 1) * w = omega arith in
    and_from _ _ (le-leb (i * w) q low) (lt-ltb q ((i + 1) * w) high)

-- a number in the range of a cell of size w has this cell
pub of_cell_range : (i w q : ℕ) → 0 < w → in_range (i * w, (i + 1) * w) q ≡ true → q / w ≡ i
of_cell_range i w q pos has =
    let parts = and_parts _ _ has in
    let low : i * w ≤ q = leb-true _ _ parts.0 in
    let high : q < (i + 1) * w = ltb-true _ _ parts.1 in
    let e : i * w + (q - i * w) ≡ q = omega arith in
    ap (λ p. p / w) (sym e) ∙ div-mul-add i w (q - i * w) (omega arith)

-- a cell of order k has the pixels of four cells of the next order
pub four_parts : (k : ℕ) → k < 29 → cell_size k ≡ cell_size (suc k) * 4
unfolding cell_size
four_parts k small =
    let deeper : 29 - k ≡ suc (29 - suc k) = omega arith in
    ap (λ n. 4 ^ n) deeper ∙ pow-succ' 4 (29 - suc k) ∙ omega arith

-- the parent of a pixel's cell is the pixel's cell of the order before
pub parent_of_pixel : (k q : ℕ) → k < 29 → q / cell_size (suc k) / 4 ≡ q / cell_size k
parent_of_pixel k q small = div-div-eq-div-mul q (cell_size (suc k)) 4 ∙ ap (λ w. q / w) (sym (four_parts k small))

-- ---- the pixels of the cells of a set are in the set

-- the range of a cell has the pixels of its span
pub in_span : (k i q : ℕ) → k ≤ 29 → i < cell_count k → in_range (cell_range (cell_number k i)) q ≡ true
    → set.contains (span k i) q ≡ true
in_span k i q small fits has =
    let of_it : q / cell_size k ≡ i = of_cell_range i (cell_size k) q (cell_size-positive k) has in
    let high : q < (i + 1) * cell_size k =
    ltb-true q ((i + 1) * cell_size k)
    (and_parts (nat_le (i * cell_size k) q) (nat_lt q ((i + 1) * cell_size k)) has).1 in
    let whole : (i + 1) * cell_size k ≤ cell_count k * cell_size k =
    mul-le (i + 1) (cell_size k) (cell_count k) (cell_size k) (omega arith) (omega arith) in
    let fills = cell_size-fills k small in
    let last : q < pixel_count = omega arith in
    contains-span k i q ∙ and_from _ _ (lt-ltb q pixel_count last) (eq-eqb (q / cell_size k) i of_it)

cell_inside : (a : NumberSet) (c : CellNumber) (q : ℕ) → IsCell c → is_cell_of a c ≡ true
    → in_range (cell_range c) q ≡ true → set.contains a q ≡ true
unfolding is_cell_of
cell_inside a c q is of_a has =
    let sub = (and_parts _ _ of_a).0 in
    set.is_subset-contains nat_cmp_total (span c.order c.index) a sub q
    (in_span c.order c.index q is.order_in_range is.index_in_range has)

cells_inside : (a : NumberSet) (cells : List CellNumber) (q : ℕ) → AllByRecursion IsCell cells
    → in_ranges (map cell_range (filter (is_cell_of a) cells)) q ≡ true → set.contains a q ≡ true
cells_inside a [] q are has = absurd (false≢true has)
cells_inside a (c ∷ cells) q are has = elim (cases_Bool (is_cell_of a c)) [
  | inl of_a ↦
      let at =
      subst (λ (b : Bool).
      in_ranges (map cell_range (cond b (c ∷ filter (is_cell_of a) cells) (filter (is_cell_of a) cells))) q
      ≡ true) of_a has in
      elim (or_cases _ _ at) [
        | inl here ↦ cell_inside a c q are.0 of_a here
        | inr later ↦ cells_inside a cells q are.1 later
      ]
  | inr other ↦
      cells_inside a cells q are.1
      (subst (λ (b : Bool).
      in_ranges (map cell_range (cond b (c ∷ filter (is_cell_of a) cells) (filter (is_cell_of a) cells))) q
      ≡ true) other has)
]

-- ---- each pixel of the set is in one of its cells

-- the largest cell around a number that is inside the set
record HasCell (a : NumberSet) (q : ℕ) : Type 0 where
  order : ℕ
  order_in_range : order ≤ 29
  is : is_cell_of a (cell_number order (q / cell_size order)) ≡ true

largest_cell : (a : NumberSet) (q k : ℕ) → k ≤ 29 → set.is_subset (span k (q / cell_size k)) a ≡ true → HasCell a q
unfolding is_cell_of
largest_cell a q zero small sub = record { order = 0; order_in_range = omega arith; is = and_from _ _ sub refl }
largest_cell a q (suc k) small sub = elim (cases_Bool (set.is_subset (span k (q / cell_size k)) a)) [
  | inl whole ↦ largest_cell a q k (omega arith) whole
  | inr partly ↦
      let before : suc k - 1 ≡ k = omega arith in
      let parent : set.is_subset (span (suc k - 1) (q / cell_size (suc k) / 4)) a ≡ false =
      (λ i. set.is_subset (span (before i) (parent_of_pixel k q (omega arith) i)) a) ∙ partly in
      record { order = suc k; order_in_range = small; is = and_from _ _ sub (or_right _ _ (not_from_false _ parent)) }
]

one_pixel : cell_size 29 ≡ 1
unfolding cell_size
one_pixel = refl

div_one : (q : ℕ) → q / cell_size 29 ≡ q
div_one q = ap (λ w. q / w) one_pixel ∙ omega arith

-- a number is its own cell of order 29
pixel_inside : (a : NumberSet) (q : ℕ) → set.contains a q ≡ true → set.is_subset (span 29 (q / cell_size 29)) a ≡ true
pixel_inside a q has = set.contains-is_subset nat_cmp_total (span 29 (q / cell_size 29)) a (λ p in_span_of_cells.
    let both = and_parts _ _ (sym (contains-span 29 (q / cell_size 29) p) ∙ in_span_of_cells) in
    let same : p ≡ q = sym (div_one p) ∙ eqb-true _ _ both.1 ∙ div_one q in
    ap (set.contains a) same ∙ has)

true_in_range : (p : CellNumber → Bool) (k i from n q : ℕ) → from ≤ i → i < from + n → p (cell_number k i) ≡ true
    → in_range (cell_range (cell_number k i)) q ≡ true
    → in_ranges (map cell_range (filter p (map (cell_number k) (range_with_len from n)))) q ≡ true
true_in_range p k i from zero q low high is has = absurd (omega arith)
true_in_range p k i from (suc n) q low high is has =
    let rest = filter p (map (cell_number k) (range_with_len (from + 1) n)) in
    elim (cases_eq from i) [
      | inl same ↦
          let kept : p (cell_number k from) ≡ true = ap (λ j. p (cell_number k j)) same ∙ is in
          let here : in_range (cell_range (cell_number k from)) q ≡ true =
          ap (λ j. in_range (cell_range (cell_number k j)) q) same ∙ has in
          ap (λ (b : Bool). in_ranges (map cell_range (cond b (cell_number k from ∷ rest) rest)) q) kept
          ∙ or_left _ _ here
      | inr other ↦
          let later = true_in_range p k i (from + 1) n q (omega arith) (omega arith) is has in
          elim (p (cell_number k from)) as (λ b.
          in_ranges (map cell_range (cond b (cell_number k from ∷ rest) rest)) q ≡ true) [
            | true ↦ or_right _ _ later
            | false ↦ later
          ]
    ]

true_below : (p : CellNumber → Bool) (k i orders q : ℕ) → k < orders → i < cell_count k → p (cell_number k i) ≡ true
    → in_range (cell_range (cell_number k i)) q ≡ true
    → in_ranges (map cell_range (filter p (cells_below orders))) q ≡ true
unfolding cells_below
true_below p k i zero q lt fits is has = absurd (omega arith)
true_below p k i (suc orders) q lt fits is has =
    let here = map (cell_number orders) (range_with_len 0 (cell_count orders)) in
    ap (λ cells. in_ranges (map cell_range cells) q) (filter-append p (cells_below orders) here)
    ∙ ap (λ rs. in_ranges rs q) (map-append cell_range (filter p (cells_below orders)) (filter p here))
    ∙ in_ranges-append (map cell_range (filter p (cells_below orders))) (map cell_range (filter p here)) q
    ∙ elim (cases_eq k orders) [
      | inl same ↦
          or_right _ _ (subst (λ (o : ℕ).
          in_ranges (map cell_range (filter p (map (cell_number o) (range_with_len 0 (cell_count o))))) q ≡ true)
          same (true_in_range p k i 0 (cell_count k) q (omega arith) (omega arith) is has))
      | inr other ↦ or_left _ _ (true_below p k i orders q (omega arith) fits is has)
    ]

index_fits : (k q : ℕ) → k ≤ 29 → q < pixel_count → q / cell_size k < cell_count k
index_fits k q small lt =
    div_below q (cell_size k) (cell_count k) (cell_size-positive k) (omega (arith, cell_size-fills k small))

has_cell : (a : NumberSet) (q : ℕ) → q < pixel_count → set.contains a q ≡ true
    → in_ranges (map cell_range (cells_of a)) q ≡ true
unfolding cells_of
has_cell a q lt has =
    let c = largest_cell a q 29 (omega arith) (pixel_inside a q has) in
    true_below (is_cell_of a) c.order (q / cell_size c.order) 30 q (omega (arith, c.order_in_range))
    (index_fits c.order q c.order_in_range lt) c.is
    (in_cell_range (q / cell_size c.order) (cell_size c.order) q (cell_size-positive c.order) refl)

inside_only : (a : NumberSet) (q : ℕ) → in_ranges (map cell_range (cells_of a)) q ≡ true → set.contains a q ≡ true
unfolding cells_of
inside_only a q has = cells_inside a (cells_below 30) q (cells_below-are 30 (omega arith)) has

-- the pixels of the cells of a set are those of the set
pub cells_fill : (a : NumberSet) → IsWithin a pixels → set_of (map cell_range (cells_of a)) ≡ a
cells_fill a within = same_members _ a (λ q.
    contains-set_of (map cell_range (cells_of a)) q
    ∙ same_truth _ _ (inside_only a q)
    (λ has. has_cell a q (ltb-true q pixel_count (sym (contains-pixels q) ∙ within.each q has)) has))

-- ---- the order of cells

abbrev AllUniqBelow : ℕ → List CellNumber → Type 0
AllUniqBelow high [] = ⊤
AllUniqBelow high (c ∷ cells) = (uniq_of c < high) × AllUniqBelow high cells

AllUniqFrom-append : (low : ℕ) (xs ys : List CellNumber) → AllUniqFrom low xs → AllUniqFrom low ys
    → AllUniqFrom low (xs ++ ys)
AllUniqFrom-append low [] ys all more = more
AllUniqFrom-append low (x ∷ xs) ys all more = (all.0, AllUniqFrom-append low xs ys all.1 more)

AllUniqFrom-less : (low lower : ℕ) (xs : List CellNumber) → lower ≤ low → AllUniqFrom low xs → AllUniqFrom lower xs
AllUniqFrom-less low lower [] le all = tt
AllUniqFrom-less low lower (x ∷ xs) le all = (omega arith, AllUniqFrom-less low lower xs le all.1)

AllUniqFrom-filter : (low : ℕ) (p : CellNumber → Bool) (xs : List CellNumber) → AllUniqFrom low xs
    → AllUniqFrom low (filter p xs)
AllUniqFrom-filter low p [] all = tt
AllUniqFrom-filter low p (x ∷ xs) all =
    let rest = AllUniqFrom-filter low p xs all.1 in
    elim (p x) as (λ b. AllUniqFrom low (cond b (x ∷ filter p xs) (filter p xs))) [
      | true ↦ (all.0, rest)
      | false ↦ rest
    ]

AllUniqBelow-append : (high : ℕ) (xs ys : List CellNumber) → AllUniqBelow high xs → AllUniqBelow high ys
    → AllUniqBelow high (xs ++ ys)
AllUniqBelow-append high [] ys all more = more
AllUniqBelow-append high (x ∷ xs) ys all more = (all.0, AllUniqBelow-append high xs ys all.1 more)

AllUniqBelow-more : (high higher : ℕ) (xs : List CellNumber) → high ≤ higher → AllUniqBelow high xs
    → AllUniqBelow higher xs
AllUniqBelow-more high higher [] le all = tt
AllUniqBelow-more high higher (x ∷ xs) le all = (omega arith, AllUniqBelow-more high higher xs le all.1)

IsSortedUniq-append : (middle : ℕ) (xs ys : List CellNumber) → IsSortedUniq xs → AllUniqBelow middle xs
    → IsSortedUniq ys → AllUniqFrom middle ys → IsSortedUniq (xs ++ ys)
IsSortedUniq-append middle [] ys up below more from = more
IsSortedUniq-append middle (x ∷ xs) ys up below more from = (
  AllUniqFrom-append (uniq_of x + 1) xs ys up.0 (AllUniqFrom-less middle (uniq_of x + 1) ys (omega arith) from),
  IsSortedUniq-append middle xs ys up.1 below.1 more from,
)

IsSortedUniq-filter : (p : CellNumber → Bool) (xs : List CellNumber) → IsSortedUniq xs → IsSortedUniq (filter p xs)
IsSortedUniq-filter p [] up = tt
IsSortedUniq-filter p (x ∷ xs) up =
    let rest = IsSortedUniq-filter p xs up.1 in
    elim (p x) as (λ b. IsSortedUniq (cond b (x ∷ filter p xs) (filter p xs))) [
      | true ↦ (AllUniqFrom-filter (uniq_of x + 1) p xs up.0, rest)
      | false ↦ rest
    ]

order_from : (k low from n : ℕ) → low ≤ 4 ^ (k + 1) + from
    → AllUniqFrom low (map (cell_number k) (range_with_len from n))
order_from k low from zero le = tt
order_from k low from (suc n) le = (le, order_from k low (from + 1) n (omega arith))

order_ascending : (k from n : ℕ) → IsSortedUniq (map (cell_number k) (range_with_len from n))
order_ascending k from zero = tt
order_ascending k from (suc n) =
    (order_from k (4 ^ (k + 1) + from + 1) (from + 1) n (omega arith), order_ascending k (from + 1) n)

order_below : (k from n high : ℕ) → 4 ^ (k + 1) + (from + n) ≤ high
    → AllUniqBelow high (map (cell_number k) (range_with_len from n))
order_below k from zero high le = tt
order_below k from (suc n) high le = (omega arith, order_below k (from + 1) n high (omega arith))

next_power : (k : ℕ) → 4 ^ (k + 1) ≡ 4 * 4 ^ k
next_power k = let one : k + 1 ≡ suc k = omega arith in ap (λ e. 4 ^ e) one ∙ pow-succ' 4 k

cells_below-rise : (orders : ℕ)
    → IsSortedUniq (cells_below orders) × AllUniqBelow (4 ^ (orders + 1)) (cells_below orders)
unfolding cells_below
cells_below-rise zero = (tt, tt)
cells_below-rise (suc k) =
    let before = cells_below-rise k in
    let here = map (cell_number k) (range_with_len 0 (cell_count k)) in
    let same : suc k ≡ k + 1 = omega arith in
    let next : 4 ^ (suc k + 1) ≡ 4 * 4 ^ (k + 1) = next_power (suc k) ∙ ap (λ e. 4 * 4 ^ e) same in
    let last = next_power k in (
      IsSortedUniq-append (4 ^ (k + 1)) (cells_below k) here before.0 before.1 (order_ascending k 0 (cell_count k))
          (order_from k (4 ^ (k + 1)) 0 (cell_count k) (omega arith)),
      AllUniqBelow-append (4 ^ (suc k + 1)) (cells_below k) here
          (AllUniqBelow-more (4 ^ (k + 1)) (4 ^ (suc k + 1)) (cells_below k) (omega arith) before.1)
          (order_below k 0 (cell_count k) (4 ^ (suc k + 1)) (omega arith)),
    )

cells_of-rise : (a : NumberSet) → IsSortedUniq (cells_of a)
unfolding cells_of
cells_of-rise a = IsSortedUniq-filter (is_cell_of a) (cells_below 30) (cells_below-rise 30).0

-- each NUNIQ number is less than the next
increasing : (cells : List CellNumber) → IsSortedUniq cells → IsStrictlyIncreasing (map uniq_of cells)
increasing [] up k within = absurd (omega arith)
increasing (c ∷ []) up k within = absurd (omega arith)
increasing (c ∷ (d ∷ cells)) up zero within = omega (arith, up.0.0)
increasing (c ∷ (d ∷ cells)) up (suc k) within =
    let rest = map uniq_of (d ∷ cells) in
    let next : suc (k + 1) ≡ suc k + 1 = omega arith in
    subst (λ n. get_or rest k 0 < get_or (uniq_of c ∷ rest) n 0) next
    (increasing (d ∷ cells) up.1 k (omega (arith, within)))

-- the cells of a set are in ascending NUNIQ
pub cells_ascend : (a : NumberSet) → IsStrictlyIncreasing (map uniq_of (cells_of a))
cells_ascend a = increasing (cells_of a) (cells_of-rise a)
