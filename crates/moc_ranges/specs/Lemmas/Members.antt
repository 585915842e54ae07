-- Membership in sets: lemmas on the definitions, for proofs.
use Rattle.std.specs.Prelude.{◌≡◌, ℕ, ◌+◌, ◌*◌, ◌/◌, true, not, ◌&&◌, nat_le, nat_lt, nat_eq}
use Rattle.std.specs.FinSet as set
use Rattle.std.specs.Ordering.{nat_cmp}
use Rattle.std.specs.Cmp.{IsEquivalence, nat_cmp_total}
use Rattle.std.proofs.Common.{arith, ◌∙◌, false, sym, ap, inl, inr}
use Rattle.std.proofs.lemmas.Bool.Decides.{nat_tests}
use Rattle.std.proofs.lemmas.Bool.{and_parts, and_from, cases_lt, lt-ltb}
use Rattle.moc_sphere.specs.CellNumber.{CellNumber, cell_size}
use Rattle.moc_blocks.specs.RangeList.{NumberSet, pixel_count}
use Rattle.moc_ranges.specs.Operations.{base_pixel_size, pixels, complement, part_of, meets, is_same}
use Rattle.moc_ranges.specs.Cells.{span, spans, degrade}
use Rattle.moc_blocks.specs.Lemmas.Members.{same_members, contains-kept, contains-numbers}
pub use Rattle.moc_operations.specs.Lemmas.Members.{contains-symmetric, same_truth}

-- the members of the set of all pixels
pub contains-pixels : (q : ℕ) → set.contains pixels q ≡ nat_lt q pixel_count
unfolding pixels
contains-pixels q = contains-numbers 0 pixel_count q ∙ grind (arith, nat_tests)

-- the members of a complement
pub contains-complement : (a : NumberSet) (q : ℕ)
    → set.contains (complement a) q ≡ (nat_lt q pixel_count && not (set.contains a q))
unfolding complement
contains-complement a q =
    set.contains-difference nat_cmp_total pixels a q ∙ (λ i. contains-pixels q i && not (set.contains a q))

-- the members of a set in a base pixel
pub contains-part_of : (a : NumberSet) (b q : ℕ)
    → set.contains (part_of a b) q ≡ (set.contains a q && nat_eq (q / base_pixel_size) b)
unfolding part_of
contains-part_of a b q = contains-kept a (λ p. nat_eq (p / base_pixel_size) b) q

-- two sets meet if a number is in both
pub meets-some : (a b : NumberSet) (q : ℕ) → set.contains a q ≡ true → set.contains b q ≡ true → meets a b ≡ true
unfolding meets
meets-some a b q in_a in_b = elim (cases_lt 0 (set.len (set.intersection a b))) [
  | inl lt ↦ lt-ltb 0 (set.len (set.intersection a b)) lt
  | inr none ↦
      let here : set.contains (set.intersection a b) q ≡ true =
      set.contains-intersection nat_cmp_total a b q ∙ (λ i. in_a i && in_b i) in
      let empty : set.contains (set.intersection a b) q ≡ false =
      ap (λ c. set.contains c q) (set.empty_of_len (set.intersection a b) (omega arith))
      ∙ set.contains-empty nat_cmp q in
      absurd (cc)
]

-- two sets do not meet if no number is in both
pub meets-none : (a b : NumberSet) → ((q : ℕ) → (set.contains a q && set.contains b q) ≡ false) → meets a b ≡ false
unfolding meets
meets-none a b none =
    let empty : set.intersection a b ≡ set.empty =
    same_members _ _ (λ q.
    set.contains-intersection nat_cmp_total a b q ∙ none q ∙ sym (set.contains-empty nat_cmp q)) in
    ap (λ c. nat_lt 0 (set.len c)) empty ∙ ap (λ n. nat_lt 0 n) (set.len-empty nat_cmp)

is_same-refl : (a : NumberSet) → is_same a a ≡ true
unfolding is_same
is_same-refl a = let all = set.contains-is_subset nat_cmp_total a a (λ q has. has) in and_from _ _ all all

-- the test holds only for equal sets
pub is_same-equal : (a b : NumberSet) → is_same a b ≡ true → a ≡ b
unfolding is_same
is_same-equal a b same =
    let parts = and_parts _ _ same in
    same_members a b (λ q.
    same_truth _ _ (set.is_subset-contains nat_cmp_total a b parts.0 q)
    (set.is_subset-contains nat_cmp_total b a parts.1 q))

-- the test holds for equal sets
pub equal-is_same : (a b : NumberSet) → a ≡ b → is_same a b ≡ true
equal-is_same a b same = ap (is_same a) (sym same) ∙ is_same-refl a

-- the test is an equivalence
pub is_same-equivalence : IsEquivalence is_same
is_same-equivalence = record {
  refl = is_same-refl;
  symm = λ a b. same_truth _ _ (λ same. equal-is_same b a (sym (is_same-equal a b same)))
      (λ same. equal-is_same a b (sym (is_same-equal b a same)));
  congr = λ a b c same. ap (λ x. is_same x c) (is_same-equal a b same);
}

-- the pixels of a cell as a half-open range
abbrev pub cell_range : CellNumber → ℕ × ℕ
cell_range c = (c.index * cell_size c.order, (c.index + 1) * cell_size c.order)

-- the members of a cell's pixels: the pixels that have this cell
pub contains-span : (order index q : ℕ)
    → set.contains (span order index) q ≡ (nat_lt q pixel_count && nat_eq (q / cell_size order) index)
unfolding span
contains-span order index q =
    contains-kept pixels (λ p. nat_eq (p / cell_size order) index) q
    ∙ ap (λ b. b && nat_eq (q / cell_size order) index) (contains-pixels q)

-- the members of a degraded set: the pixels whose cell meets the set
pub contains-degrade : (a : NumberSet) (order q : ℕ)
    → set.contains (degrade a order) q ≡ (nat_lt q pixel_count && meets a (span order (q / cell_size order)))
unfolding degrade
contains-degrade a order q =
    contains-kept pixels (λ p. meets a (span order (p / cell_size order))) q
    ∙ ap (λ b. b && meets a (span order (q / cell_size order))) (contains-pixels q)

-- the members of the pixels of a run of cells: the pixels that have one of these cells
pub contains-spans : (order first last q : ℕ)
    → set.contains (spans order first last) q
    ≡ (nat_lt q pixel_count && (nat_le first (q / cell_size order) && nat_le (q / cell_size order) last))
unfolding spans
contains-spans order first last q =
    contains-kept pixels (λ p. nat_le first (p / cell_size order) && nat_le (p / cell_size order) last) q
    ∙ ap (λ b. b && (nat_le first (q / cell_size order) && nat_le (q / cell_size order) last)) (contains-pixels q)
