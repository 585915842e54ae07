-- The pixels of one cell, as a list of one range.
use Rattle.std.proofs.Common.{◌≡◌, ℕ, ◌/◌, ◌<◌, ◌≤◌, ◌↔◌, true, false, [], ◌∷◌, sym, ◌∙◌, arith, inl, inr}
use Rattle.std.specs.Prelude.{nat_eq, nat_lt}
use Rattle.std.proofs.lemmas.Bool.{cases_lt, eq-eqb, eqb-true, false_from_ne_true, and_from, and_parts, lt-ltb}
use Rattle.std.proofs.lemmas.Bool.Decides.{nat_tests}
use Rattle.std.specs.FinSet as set
use Rattle.moc_sphere.specs.CellNumber.{cell_number, IsInSpan, cell_size}
use Rattle.moc_blocks.specs.Lemmas.Members.{same_members, contains-set_of, in_ranges}
use Rattle.moc_ranges.specs.Lemmas.Members.{contains-span}
use Rattle.moc_blocks.specs.RangeList.{pixel_count, set_of}
use Rattle.moc_ranges.specs.Cells.{span}

abbrev IsSpanned : ℕ → ℕ → ℕ → ℕ → Type 0
IsSpanned order index from to = (p : ℕ) → ((from ≤ p) × (p < to)) ↔ IsInSpan (cell_number order index) p

here : (from to q : ℕ) → from ≤ q → q < to → in_ranges ((from, to) ∷ []) q ≡ true
here from to q low high = grind (arith, nat_tests)

not_in_range_before_start : (from to q : ℕ) → q < from → in_ranges ((from, to) ∷ []) q ≡ false
not_in_range_before_start from to q low = grind (arith, nat_tests)

not_in_range_from_end : (from to q : ℕ) → to ≤ q → in_ranges ((from, to) ∷ []) q ≡ false
not_in_range_from_end from to q high = grind (arith, nat_tests)

in_span_of_cells : (order index from to q : ℕ) → IsSpanned order index from to → to ≤ pixel_count → from ≤ q → q < to → set.contains (span order index) q ≡ true
in_span_of_cells order index from to q pixels whole low high =
    contains-span order index q
    ∙ and_from (nat_lt q pixel_count) _ (lt-ltb q pixel_count (omega arith)) (eq-eqb (q / cell_size order) index ((pixels q).0 (low, high)))

not_in_it : (order index from to q : ℕ) → IsSpanned order index from to → ((from ≤ q) × (q < to) → ⊥) → set.contains (span order index) q ≡ false
not_in_it order index from to q pixels out = false_from_ne_true (set.contains (span order index) q) (λ has.
    let parts = and_parts (nat_lt q pixel_count) (nat_eq (q / cell_size order) index) (sym (contains-span order index q) ∙ has) in
    out ((pixels q).1 (eqb-true (q / cell_size order) index parts.1)))

-- a cell's pixels are those of the range that it spans
pub span_view : (order index from to : ℕ) → IsSpanned order index from to → to ≤ pixel_count → set_of ((from, to) ∷ []) ≡ span order index
span_view order index from to pixels whole = same_members _ _ (λ q. contains-set_of ((from, to) ∷ []) q ∙ elim (cases_lt q from) [
  | inl low ↦ not_in_range_before_start from to q low ∙ sym (not_in_it order index from to q pixels (λ parts. omega (arith, parts.0)))
  | inr from_on ↦ elim (cases_lt q to) [
    | inl high ↦ here from to q from_on high ∙ sym (in_span_of_cells order index from to q pixels whole from_on high)
    | inr past ↦ not_in_range_from_end from to q past ∙ sym (not_in_it order index from to q pixels (λ parts. omega (arith, parts.1)))
  ]
])
