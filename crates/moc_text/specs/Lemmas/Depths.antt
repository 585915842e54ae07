-- Lemmas about depths, for the proofs of callers: a union of whole cells of an order has no deeper cell. The set that a
-- text represents is such a union for the MOC order of the text, and so are the results of set operations.
use Rattle.std.proofs.Common.{◌≡◌, ℕ, zero, suc, ◌+◌, ◌-◌, ◌*◌, ◌/◌, ◌<◌, ◌≤◌, Bool, true, false, cond, not, ◌&&◌, ◌||◌}
use Rattle.std.proofs.Common.{List, [], ◌∷◌, Option, None, Some, refl, sym, ap, ap₂, subst, ◌∙◌, inl, inr, arith}
use Rattle.std.specs.Prelude.{nat_eq, nat_le, nat_lt, ⊤, slice_index_or, length, min, option_map, ◌^◌}
use Rattle.std.specs.FinSet as set
use Rattle.std.specs.Ordering.{nat_cmp}
use Rattle.std.specs.Cmp.{nat_cmp_total}
use Rattle.std.specs.List.{AllByRecursion, filter}
use Rattle.std.proofs.lemmas.Bool.{cases_Bool, cases_lt, and_parts, and_from, or_cases, lt-ltb, ltb-true, eq-eqb}
use Rattle.std.proofs.lemmas.Bool.{eqb-true, false≢true}
use Rattle.std.proofs.lemmas.Nat.{div-mul-add}
use Rattle.serde_json.specs.Data.{Items, no_items, item, Members, no_members, member}
use Rattle.serde_json.specs.Find.{as_array}
use Rattle.moc_sphere.specs.CellNumber.{CellNumber, cell_size, IsCell}
use Rattle.moc_sphere.specs.Lemmas.{cell_size-positive}
use Rattle.moc_lists.specs.RangeList.{NumberSet, pixel_count}
use Rattle.moc_ranges.specs.Operations.{symmetric, complement, meets}
use Rattle.moc_ranges.specs.Lemmas.Members.{contains-symmetric, contains-complement, meets-some, meets-none}
use Rattle.moc_ranges.specs.Lemmas.Members.{contains-span, contains-spans, contains-degrade}
use Rattle.moc_ranges.specs.Cells.{span, spans, degrade, cells_of, cells_below, is_cell_of}
use Rattle.moc_ranges.specs.Lemmas.Cells.{cells_are, parent_of_pixel, in_cell_range, in_span}
use Rattle.moc_text.specs.declared.ascii.number.Item.{Item}
use Rattle.moc_text.specs.declared.ascii.number.Numeral.{Numeral}
use Rattle.moc_text.specs.declared.ascii.number.WordNumbers.{WordNumbers}
use Rattle.moc_text.specs.Ascii.{current_order, item_pixels, pixels_of_words, deepest_of, deeper, last_cell, Represents}
use Rattle.moc_text.specs.AsciiText.{IsTooCoarse}
use Rattle.moc_text.specs.JsonFormat.{order_of_name, whole_number, cell_pixels, items_pixels, array_pixels}
use Rattle.moc_text.specs.JsonFormat.{members_pixels, deepest_name, RepresentsJson}

-- two pixels in the same cell of the order are both in the set, or neither is
pub record IsUnionOfCells (k : ℕ) (a : NumberSet) : Type 0 where
  pub each : (p q : ℕ) → p < pixel_count → q < pixel_count → p / cell_size k ≡ q / cell_size k
      → set.contains a p ≡ set.contains a q

-- an optional order is at most k
abbrev pub IsAtMost : Option ℕ → ℕ → Type 0
IsAtMost None k = ⊤
IsAtMost (Some j) k = j ≤ k

-- the set is a union of whole cells of each order at least as deep as this optional order, or of every order without it
abbrev pub HasMaxOrder : NumberSet → Option ℕ → Type 0
HasMaxOrder a moc_order = (k : ℕ) → IsAtMost moc_order k → IsUnionOfCells k a

-- ---- cells and deeper cells

small_size : (k : ℕ) → 29 ≤ k → cell_size k ≡ 1
unfolding cell_size
small_size k deep = let none : 29 - k ≡ 0 = omega arith in ap (λ n. 4 ^ n) none

step : (k p q : ℕ) → p / cell_size (suc k) ≡ q / cell_size (suc k) → p / cell_size k ≡ q / cell_size k
step k p q same = elim (cases_lt k 29) [
  | inl lt ↦ sym (parent_of_pixel k p lt) ∙ ap (λ n. n / 4) same ∙ parent_of_pixel k q lt
  | inr deep ↦
      let here : cell_size (suc k) ≡ cell_size k =
      small_size (suc k) (omega arith) ∙ sym (small_size k (omega arith)) in
      subst (λ (w : ℕ). p / w ≡ q / w) here same
]

coarser : (d j k p q : ℕ) → j ≡ d + k → p / cell_size j ≡ q / cell_size j → p / cell_size k ≡ q / cell_size k
coarser zero j k p q is same =
    let here : j ≡ k = omega arith in
    subst (λ (n : ℕ). p / cell_size n ≡ q / cell_size n) here same
coarser (suc d) j k p q is same =
    let before : j ≡ suc (d + k) = omega arith in
    coarser d (d + k) k p q refl (step (d + k) p q (subst (λ (n : ℕ). p / cell_size n ≡ q / cell_size n) before same))

coarser_than : (j k p q : ℕ) → k ≤ j → p / cell_size j ≡ q / cell_size j → p / cell_size k ≡ q / cell_size k
coarser_than j k p q le same = coarser (j - k) j k p q (omega arith) same

-- a union of cells is a union of deeper cells
pub union_of_deeper : (j k : ℕ) (a : NumberSet) → j ≤ k → IsUnionOfCells j a → IsUnionOfCells k a
union_of_deeper j k a le made = record {
  each = λ p q p_in q_in same. made.each p q p_in q_in (coarser_than k j p q le same);
}

-- ---- a union of cells of an order has no deeper cell

shallow : (a : NumberSet) (k : ℕ) (c : CellNumber) → IsUnionOfCells k a → IsCell c → is_cell_of a c ≡ true → c.order ≤ k
unfolding is_cell_of
shallow a k c made is of_a = elim (cases_lt k c.order) [
  | inr le ↦ omega arith
  | inl lt ↦
      let both = and_parts _ _ of_a in
      let q : ℕ = c.index * cell_size c.order in
      let mine : set.contains (span c.order c.index) q ≡ true =
      in_span c.order c.index q is.order_in_range is.index_in_range
      (in_cell_range c.index (cell_size c.order) q (cell_size-positive c.order)
      (first_of c.index (cell_size c.order) (cell_size-positive c.order))) in
      let at = and_parts _ _ (sym (contains-span c.order c.index q) ∙ mine) in
      let q_in : q < pixel_count = ltb-true _ _ at.0 in
      let has : set.contains a q ≡ true = set.is_subset-contains nat_cmp_total (span c.order c.index) a both.0 q mine in
      let order : suc (c.order - 1) ≡ c.order = omega arith in
      let up : q / cell_size (c.order - 1) ≡ c.index / 4 =
      sym (parent_of_pixel (c.order - 1) q (omega (arith, is.order_in_range)))
      ∙ ap (λ n. q / cell_size n / 4) order ∙ ap (λ n. n / 4) (eqb-true _ _ at.1) in
      let parent : set.is_subset (span (c.order - 1) (c.index / 4)) a ≡ true =
      set.contains-is_subset nat_cmp_total (span (c.order - 1) (c.index / 4)) a (λ p in_span_of_cells.
      let there = and_parts _ _ (sym (contains-span (c.order - 1) (c.index / 4) p) ∙ in_span_of_cells) in
      let same : p / cell_size (c.order - 1) ≡ q / cell_size (c.order - 1) = eqb-true _ _ there.1 ∙ sym up in
      made.each p q (ltb-true _ _ there.0) q_in (coarser_than (c.order - 1) k p q (omega arith) same) ∙ has) in
      absurd (refuted c.order _ (omega arith) parent both.1)
]
  where
    first_of : (i w : ℕ) → 0 < w → i * w / w ≡ i
    first_of i w some = ap (λ n. n / w) (omega arith) ∙ div-mul-add i w 0 some

    refuted : (n : ℕ) (b : Bool) → 0 < n → b ≡ true → (nat_eq n 0 || not b) ≡ true → ⊥
    refuted n b some is e = elim (or_cases (nat_eq n 0) (not b) e) [
      | inl none ↦ omega (arith, eqb-true n 0 none)
      | inr not_b ↦ absurd (false≢true (ap (λ c. not c) (sym is) ∙ not_b))
    ]

all_shallow : (a : NumberSet) (k : ℕ) (cells : List CellNumber) → IsUnionOfCells k a
    → AllByRecursion IsCell (filter (is_cell_of a) cells)
    → AllByRecursion (λ c. c.order ≤ k) (filter (is_cell_of a) cells)
all_shallow a k [] made are = tt
all_shallow a k (c ∷ cells) made are =
    let rest = filter (is_cell_of a) cells in
    elim (cases_Bool (is_cell_of a c)) [
      | inl of_a ↦
          let at = subst (λ (b : Bool). AllByRecursion IsCell (cond b (c ∷ rest) rest)) of_a are in
          subst (λ (b : Bool). AllByRecursion (λ c. c.order ≤ k) (cond b (c ∷ rest) rest)) (sym of_a)
          (shallow a k c made at.0 of_a, all_shallow a k cells made at.1)
      | inr other ↦
          let at = subst (λ (b : Bool). AllByRecursion IsCell (cond b (c ∷ rest) rest)) other are in
          subst (λ (b : Bool). AllByRecursion (λ c. c.order ≤ k) (cond b (c ∷ rest) rest)) (sym other)
          (all_shallow a k cells made at)
    ]

-- each cell of a union of cells of an order is of that order or of a coarser one
cells_shallow : (a : NumberSet) (k : ℕ) → IsUnionOfCells k a → AllByRecursion (λ c. c.order ≤ k) (cells_of a)
unfolding cells_of
cells_shallow a k made = all_shallow a k (cells_below 30) made (cells_are a)

none_deeper : (k : ℕ) (cells : List CellNumber) (i : ℕ) (c : CellNumber) → AllByRecursion (λ c. c.order ≤ k) cells
    → i < length cells → slice_index_or cells i c ≡ c → k < c.order → ⊥
none_deeper k [] i c all lt is deep = omega arith
none_deeper k (d ∷ cells) zero c all lt is deep =
    let same : d.order ≡ c.order = ap (λ (x : CellNumber). x.order) is in
    omega (arith, all.0)
none_deeper k (d ∷ cells) (suc i) c all lt is deep = none_deeper k cells i c all.1 (omega arith) is deep

-- a set can be written with its depth as the stated order
pub not_too_coarse : (a : NumberSet) (stated : Option ℕ) → HasMaxOrder a stated → IsTooCoarse a stated → ⊥
not_too_coarse a None has coarse = coarse
not_too_coarse a (Some k) has coarse =
    none_deeper k (cells_of a) coarse.0 coarse.1 (cells_shallow a k (has k (omega arith))) coarse.2 coarse.3 coarse.4

-- ---- results of set operations

both_ways : (p q : ℕ) → p < pixel_count → q < pixel_count → nat_lt p pixel_count ≡ nat_lt q pixel_count
both_ways p q p_in q_in = lt-ltb p pixel_count p_in ∙ sym (lt-ltb q pixel_count q_in)

empty_is_union_of_cells : (k : ℕ) → IsUnionOfCells k set.empty
empty_is_union_of_cells k = record {
  each = λ p q p_in q_in same. set.contains-empty nat_cmp p ∙ sym (set.contains-empty nat_cmp q);
}

union_of_two : (k : ℕ) (a b : NumberSet) → IsUnionOfCells k a → IsUnionOfCells k b → IsUnionOfCells k (set.union a b)
union_of_two k a b of_a of_b = record {
  each = λ p q p_in q_in same.
      set.contains-union nat_cmp_total a b p
      ∙ ap₂ (λ x y. x || y) (of_a.each p q p_in q_in same) (of_b.each p q p_in q_in same)
      ∙ sym (set.contains-union nat_cmp_total a b q);
}

intersection_is_union_of_cells : (k : ℕ) (a b : NumberSet) → IsUnionOfCells k a → IsUnionOfCells k b
    → IsUnionOfCells k (set.intersection a b)
intersection_is_union_of_cells k a b of_a of_b = record {
  each = λ p q p_in q_in same.
      set.contains-intersection nat_cmp_total a b p
      ∙ ap₂ (λ x y. x && y) (of_a.each p q p_in q_in same) (of_b.each p q p_in q_in same)
      ∙ sym (set.contains-intersection nat_cmp_total a b q);
}

difference_is_union_of_cells : (k : ℕ) (a b : NumberSet) → IsUnionOfCells k a → IsUnionOfCells k b
    → IsUnionOfCells k (set.difference a b)
difference_is_union_of_cells k a b of_a of_b = record {
  each = λ p q p_in q_in same.
      set.contains-difference nat_cmp_total a b p
      ∙ ap₂ (λ x y. x && not y) (of_a.each p q p_in q_in same) (of_b.each p q p_in q_in same)
      ∙ sym (set.contains-difference nat_cmp_total a b q);
}

symmetric_union : (k : ℕ) (a b : NumberSet) → IsUnionOfCells k a → IsUnionOfCells k b → IsUnionOfCells k (symmetric a b)
symmetric_union k a b of_a of_b = record {
  each = λ p q p_in q_in same.
      contains-symmetric a b p
      ∙ ap₂ (λ x y. (x && not y) || (y && not x)) (of_a.each p q p_in q_in same) (of_b.each p q p_in q_in same)
      ∙ sym (contains-symmetric a b q);
}

complement_is_union_of_cells : (k : ℕ) (a : NumberSet) → IsUnionOfCells k a → IsUnionOfCells k (complement a)
complement_is_union_of_cells k a of_a = record {
  each = λ p q p_in q_in same.
      contains-complement a p
      ∙ ap₂ (λ x y. x && not y) (both_ways p q p_in q_in) (of_a.each p q p_in q_in same)
      ∙ sym (contains-complement a q);
}

degraded_is_union_of_cells : (k : ℕ) (a : NumberSet) → IsUnionOfCells k (degrade a k)
degraded_is_union_of_cells k a = record {
  each = λ p q p_in q_in same.
      contains-degrade a k p
      ∙ ap₂ (λ x i. x && meets a (span k i)) (both_ways p q p_in q_in) same
      ∙ sym (contains-degrade a k q);
}

-- ---- a degraded set

and_false : (b : Bool) → (b && false) ≡ false
and_false true = refl
and_false false = refl

none_beside : (o : ℕ) (a : NumberSet) (p : ℕ) → IsUnionOfCells o a → p < pixel_count → set.contains a p ≡ false
    → (q : ℕ) → (set.contains a q && set.contains (span o (p / cell_size o)) q) ≡ false
none_beside o a p made p_in out q = elim (cases_Bool (set.contains (span o (p / cell_size o)) q)) [
  | inl in_span_of_cells ↦
      let at = and_parts _ _ (sym (contains-span o (p / cell_size o) q) ∙ in_span_of_cells) in
      ap₂ (λ x y. x && y) (made.each q p (ltb-true _ _ at.0) p_in (eqb-true _ _ at.1) ∙ out) in_span_of_cells
  | inr other ↦ ap (λ y. set.contains a q && y) other ∙ and_false (set.contains a q)
]

degrade_same : (o : ℕ) (a : NumberSet) (p : ℕ) → IsUnionOfCells o a → p < pixel_count
    → set.contains (degrade a o) p ≡ set.contains a p
degrade_same o a p made p_in = elim (cases_Bool (set.contains a p)) [
  | inl has ↦
      let here : set.contains (span o (p / cell_size o)) p ≡ true =
      contains-span o (p / cell_size o) p ∙ and_from _ _ (lt-ltb p pixel_count p_in) (eq-eqb _ _ refl) in
      contains-degrade a o p
      ∙ and_from _ _ (lt-ltb p pixel_count p_in) (meets-some a (span o (p / cell_size o)) p has here) ∙ sym has
  | inr out ↦
      contains-degrade a o p
      ∙ ap (λ m. nat_lt p pixel_count && m) (meets-none a (span o (p / cell_size o)) (none_beside o a p made p_in out))
      ∙ and_false (nat_lt p pixel_count) ∙ sym out
]

-- a union of cells of an order remains one after degrading to a deeper order
degrade_of_union : (n o : ℕ) (a : NumberSet) → n ≤ o → IsUnionOfCells n a → IsUnionOfCells n (degrade a o)
degrade_of_union n o a le made = record {
  each = λ p q p_in q_in same.
      degrade_same o a p (union_of_deeper n o a le made) p_in ∙ made.each p q p_in q_in same
      ∙ sym (degrade_same o a q (union_of_deeper n o a le made) q_in);
}

-- ---- depths

at_most_first : (x y : Option ℕ) (k : ℕ) → IsAtMost (deeper x y) k → IsAtMost x k
at_most_first None y k le = tt
at_most_first (Some j) None k le = le
at_most_first (Some j) (Some m) k le = omega arith

at_most_second : (x y : Option ℕ) (k : ℕ) → IsAtMost (deeper x y) k → IsAtMost y k
at_most_second None y k le = le
at_most_second (Some j) None k le = tt
at_most_second (Some j) (Some m) k le = omega arith

pub union_depth : (a b : NumberSet) (x y : Option ℕ) → HasMaxOrder a x → HasMaxOrder b y
    → HasMaxOrder (set.union a b) (deeper x y)
union_depth a b x y of_a of_b k le =
    union_of_two k a b (of_a k (at_most_first x y k le)) (of_b k (at_most_second x y k le))

pub intersection_depth : (a b : NumberSet) (x y : Option ℕ) → HasMaxOrder a x → HasMaxOrder b y
    → HasMaxOrder (set.intersection a b) (deeper x y)
intersection_depth a b x y of_a of_b k le =
    intersection_is_union_of_cells k a b (of_a k (at_most_first x y k le)) (of_b k (at_most_second x y k le))

pub difference_depth : (a b : NumberSet) (x y : Option ℕ) → HasMaxOrder a x → HasMaxOrder b y
    → HasMaxOrder (set.difference a b) (deeper x y)
difference_depth a b x y of_a of_b k le =
    difference_is_union_of_cells k a b (of_a k (at_most_first x y k le)) (of_b k (at_most_second x y k le))

pub symmetric_depth : (a b : NumberSet) (x y : Option ℕ) → HasMaxOrder a x → HasMaxOrder b y
    → HasMaxOrder (symmetric a b) (deeper x y)
symmetric_depth a b x y of_a of_b k le =
    symmetric_union k a b (of_a k (at_most_first x y k le)) (of_b k (at_most_second x y k le))

pub complement_depth : (a : NumberSet) (x : Option ℕ) → HasMaxOrder a x → HasMaxOrder (complement a) x
complement_depth a x of_a k le = complement_is_union_of_cells k a (of_a k le)

coarser_of : (x : Option ℕ) (o k : ℕ) → k < o → IsAtMost (option_map (λ j. min j o) x) k → IsAtMost x k
coarser_of None o k lt le = tt
coarser_of (Some j) o k lt le = omega arith

pub degrade_depth : (a : NumberSet) (x : Option ℕ) (o : ℕ) → HasMaxOrder a x
    → HasMaxOrder (degrade a o) (option_map (λ j. min j o) x)
degrade_depth a x o of_a k le = elim (cases_lt k o) [
  | inl lt ↦ degrade_of_union k o a (omega arith) (of_a k (coarser_of x o k lt le))
  | inr deep ↦ union_of_deeper o k (degrade a o) (omega arith) (degraded_is_union_of_cells o a)
]

-- ---- sets that texts represent

span_is_union : (j i : ℕ) → IsUnionOfCells j (span j i)
span_is_union j i = record {
  each = λ p q p_in q_in same.
      contains-span j i p ∙ ap₂ (λ x n. x && nat_eq n i) (both_ways p q p_in q_in) same ∙ sym (contains-span j i q);
}

spans_are_union : (j first last : ℕ) → IsUnionOfCells j (spans j first last)
spans_are_union j first last = record {
  each = λ p q p_in q_in same.
      contains-spans j first last p
      ∙ ap₂ (λ x n. x && (nat_le first n && nat_le n last)) (both_ways p q p_in q_in) same
      ∙ sym (contains-spans j first last q);
}

item_is_union : (k : ℕ) (j : Option ℕ) (i : Option Item) → IsAtMost j k → IsUnionOfCells k (item_pixels j i)
item_is_union k j None le = empty_is_union_of_cells k
item_is_union k None (Some i) le = empty_is_union_of_cells k
item_is_union k (Some j) (Some i) le = union_of_deeper j k _ le (spans_are_union j i.first.value (last_cell i).value)

in_force : (before : Option ℕ) (mark : Option Numeral) (k : ℕ) → IsAtMost before k
    → IsAtMost (current_order None mark) k → IsAtMost (current_order before mark) k
in_force before None k le own = le
in_force before (Some n) k le own = own

words_are_union : (k : ℕ) (before : Option ℕ) (ns : List WordNumbers) → IsAtMost before k → IsAtMost (deepest_of ns) k
    → IsUnionOfCells k (pixels_of_words before ns)
words_are_union k before [] le most = empty_is_union_of_cells k
words_are_union k before (n ∷ ns) le most =
    let here = in_force before n.mark k le (at_most_first (current_order None n.mark) (deepest_of ns) k most) in
    let rest = at_most_second (current_order None n.mark) (deepest_of ns) k most in
    union_of_two k _ _ (item_is_union k (current_order before n.mark) n.item here)
    (words_are_union k (current_order before n.mark) ns here rest)

-- a text in the ASCII format
pub ascii_depth : (text : List ℕ) (a : NumberSet) (moc_order : Option ℕ) → Represents text a moc_order
    → HasMaxOrder a moc_order
ascii_depth text a moc_order represents k le =
    subst (λ (b : NumberSet). IsUnionOfCells k b) (sym represents.set_is)
    (words_are_union k None represents.numbers tt (subst (λ (x : Option ℕ). IsAtMost x k) represents.moc_order_is le))

cell_is_union : (k j : ℕ) (i : Option ℕ) → j ≤ k → IsUnionOfCells k (cell_pixels j i)
cell_is_union k j None le = empty_is_union_of_cells k
cell_is_union k j (Some i) le = union_of_deeper j k (span j i) le (span_is_union j i)

items_union : (k j : ℕ) (ds : Items) → j ≤ k → IsUnionOfCells k (items_pixels j ds)
items_union k j no_items le = empty_is_union_of_cells k
items_union k j (item d ds) le = union_of_two k _ _ (cell_is_union k j (whole_number d) le) (items_union k j ds le)

array_is_union : (k : ℕ) (j : Option ℕ) (ds : Option Items) → IsAtMost j k → IsUnionOfCells k (array_pixels j ds)
array_is_union k (Some j) (Some ds) le = items_union k j ds le
array_is_union k None ds le = empty_is_union_of_cells k
array_is_union k (Some j) None le = empty_is_union_of_cells k

members_are_union : (k : ℕ) (ms : Members) → IsAtMost (deepest_name ms) k → IsUnionOfCells k (members_pixels ms)
members_are_union k no_members most = empty_is_union_of_cells k
members_are_union k (member name d ms) most =
    union_of_two k _ _
    (array_is_union k (order_of_name name) (as_array d) (at_most_first (order_of_name name) (deepest_name ms) k most))
    (members_are_union k ms (at_most_second (order_of_name name) (deepest_name ms) k most))

-- a text in the JSON format
pub json_depth : (text : List ℕ) (a : NumberSet) (moc_order : Option ℕ) → RepresentsJson text a moc_order
    → HasMaxOrder a moc_order
json_depth text a moc_order represents k le =
    subst (λ (b : NumberSet). IsUnionOfCells k b) (sym represents.set_is)
    (members_are_union k represents.members (subst (λ (x : Option ℕ). IsAtMost x k) represents.moc_order_is le))
