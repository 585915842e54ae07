-- The state of a coverage builder: the merged set, and the ranges that wait.
use Rattle.std.proofs.Common.{◌≡◌, ℕ, ◌+◌, ◌*◌, ◌<◌, ◌≤◌, ◌↔◌, Bool, true, false, ◌||◌, List, [], ◌∷◌, ◌++◌, length}
use Rattle.std.proofs.Common.{refl, sym, ap, ◌∙◌, arith}
use Rattle.std.specs.Prelude.{None}
use Rattle.std.specs.FinSet as set
use Rattle.std.specs.Cmp.{nat_cmp_total}
use Rattle.std.proofs.lemmas.Bool.Decides.{nat_tests}
use Rattle.moc_sphere.specs.CellNumber.{CellNumber, cell_count, cell_size, cell_number, IsInSpan}
use Rattle.moc_blocks.specs.RangeList.{NumberSet, numbers, pixel_count, set_of}
use Rattle.moc_blocks.specs.Lemmas.Members.{contains-numbers, same_members, contains-set_of}
use Rattle.moc_ranges.specs.Lemmas.Members.{contains-spans}
use Rattle.moc_ranges.specs.Cells.{span, spans, pixels_of}
use Rattle.std.specs.Option.{option_or}
use Rattle.moc_ranges.specs.Errors.{first_error_of, pair_error}
use Rattle.moc_ranges.specs.Private.Collected.{pixels_of_builder}
use Rattle.moc_ranges.specs.Lemmas.{empty-union, union-empty, union-assoc, pixels_of-append, run_of_cells, in_union}
use Rattle.moc_ranges.proofs.Sorting.{in_ranges-push, neither_option}
use Rattle.moc_ranges.proofs.Spans.{span_view}

-- no range waits
pub none_waits : (joined : NumberSet) → set.union joined (set_of []) ≡ joined
unfolding set_of
none_waits joined = union-empty joined

pub none_waits-length : (joined : NumberSet) (waiting : List (ℕ × ℕ)) → length waiting ≡ 0 → joined ≡ set.union joined (set_of waiting)
none_waits-length joined [] none = sym (none_waits joined)
none_waits-length joined (range ∷ waiting) none = absurd (omega arith)

or_swap : (a b c : Bool) → ((a || b) || c) ≡ ((a || c) || b)
or_swap true b c = refl
or_swap false true true = refl
or_swap false true false = refl
or_swap false false true = refl
or_swap false false false = refl

-- one more range is merged
pub union_swap_waiting : (joined waiting added : NumberSet) → set.union (set.union joined added) waiting ≡ set.union (set.union joined waiting) added
union_swap_waiting joined waiting added = same_members _ _ (λ q.
    in_union (set.union joined added) waiting q ∙ ap (λ b. b || set.contains waiting q) (in_union joined added q)
    ∙ or_swap (set.contains joined q) (set.contains added q) (set.contains waiting q)
    ∙ sym (in_union (set.union joined waiting) added q ∙ ap (λ b. b || set.contains added q) (in_union joined waiting q)))

pub set_of-push : (ranges : List (ℕ × ℕ)) (range : ℕ × ℕ) → set_of (ranges ++ range ∷ []) ≡ set.union (set_of ranges) (numbers range.0 range.1)
set_of-push ranges range = same_members _ _ (λ q.
    contains-set_of (ranges ++ range ∷ []) q ∙ in_ranges-push ranges range q
    ∙ (λ i. sym (contains-set_of ranges q) i || sym (contains-numbers range.0 range.1 q) i)
    ∙ sym (in_union (set_of ranges) (numbers range.0 range.1) q))

-- the builder is empty, or all its ranges are merged
pub builder_pixels_of_merged : (joined : NumberSet) (ascending waiting : List (ℕ × ℕ)) → ascending ≡ [] → waiting ≡ [] → pixels_of_builder joined ascending waiting ≡ joined
builder_pixels_of_merged joined ascending waiting none_rose none_wait =
    (λ i. pixels_of_builder joined (none_rose i) (none_wait i)) ∙ none_waits (set.union joined (set_of [])) ∙ none_waits joined

-- all ranges came in order
pub builder_pixels_ascending : (joined : NumberSet) (ascending waiting : List (ℕ × ℕ)) → joined ≡ set.empty → length waiting ≡ 0 → pixels_of_builder joined ascending waiting ≡ set_of ascending
builder_pixels_ascending joined ascending waiting none none_wait =
    sym (none_waits-length (set.union joined (set_of ascending)) waiting none_wait)
    ∙ ap (λ (a : NumberSet). set.union a (set_of ascending)) none ∙ empty-union (set_of ascending)

-- one more range came in order
pub builder_pixels_after_ascending : (joined : NumberSet) (ascending ascending' waiting : List (ℕ × ℕ)) (added : NumberSet) → set_of ascending' ≡ set.union (set_of ascending) added → pixels_of_builder joined ascending' waiting ≡ set.union (pixels_of_builder joined ascending waiting) added
builder_pixels_after_ascending joined ascending ascending' waiting added is =
    ap (λ (a : NumberSet). set.union (set.union joined a) (set_of waiting)) is
    ∙ ap (λ (a : NumberSet). set.union a (set_of waiting)) (sym (union-assoc joined (set_of ascending) added))
    ∙ union_swap_waiting (set.union joined (set_of ascending)) (set_of waiting) added

-- one more range waits
pub waiting_set_after_push : (joined : NumberSet) (waiting : List (ℕ × ℕ)) (range : ℕ × ℕ) → set.union joined (set_of (waiting ++ range ∷ [])) ≡ set.union (set.union joined (set_of waiting)) (numbers range.0 range.1)
waiting_set_after_push joined waiting range = ap (λ a. set.union joined a) (set_of-push waiting range) ∙ sym (union-assoc joined (set_of waiting) (numbers range.0 range.1))

-- the pixels of a cell, as consecutive numbers
pub span_numbers : (order index from to : ℕ) → ((p : ℕ) → ((from ≤ p) × (p < to)) ↔ IsInSpan (cell_number order index) p) → to ≤ pixel_count → numbers from to ≡ span order index
unfolding set_of
span_numbers order index from to pixels within = sym (union-empty (numbers from to)) ∙ span_view order index from to pixels within

-- the pixels of consecutive cells, as consecutive numbers
pub spans_numbers : (k first last : ℕ) → k ≤ 29 → last < cell_count k → numbers (first * cell_size k) ((last + 1) * cell_size k) ≡ spans k first last
spans_numbers k first last small fits = same_members _ _ (λ q. contains-numbers (first * cell_size k) ((last + 1) * cell_size k) q ∙ run_of_cells k first last q small fits)

or_with_false : (a b : Bool) → b ≡ false → (a || b) ≡ a
or_with_false true b none = refl
or_with_false false b none = none

no_cell : (k first last q : ℕ) → last < first → set.contains (spans k first last) q ≡ false
no_cell k first last q none = contains-spans k first last q ∙ grind (arith, nat_tests)

-- a run that ends before it begins has no cell
pub no_row : (a : NumberSet) (k first last : ℕ) → last < first → a ≡ set.union a (spans k first last)
no_row a k first last none = same_members _ _ (λ q. sym (set.contains-union nat_cmp_total a (spans k first last) q ∙ or_with_false _ _ (no_cell k first last q none)))

pub valid-push : (at : ℕ) (pairs : List (ℕ × ℕ)) (pair : ℕ × ℕ) → first_error_of pair_error at pairs ≡ None → pair.0 ≤ pair.1 → pair.1 ≤ pixel_count → first_error_of pair_error at (pairs ++ pair ∷ []) ≡ None
valid-push at [] pair none ascending within = grind (arith, nat_tests)
valid-push at (p ∷ pairs) pair none ascending within =
    let parts = neither_option (pair_error at p) (first_error_of pair_error (at + 1) pairs) none in
    ap (λ f. option_or f (first_error_of pair_error (at + 1) (pairs ++ pair ∷ []))) parts.0 ∙ valid-push (at + 1) pairs pair parts.1 ascending within

-- no cell is added yet
pub no_cells_added : (a : NumberSet) → a ≡ set.union a (pixels_of [])
unfolding pixels_of
no_cells_added a = sym (union-empty a)

pixels_of_single_cell : (c : CellNumber) → pixels_of (c ∷ []) ≡ span c.order c.index
unfolding pixels_of
pixels_of_single_cell c = union-empty (span c.order c.index)

-- one more cell is added
pub cell_added : (a : NumberSet) (cells : List CellNumber) (c : CellNumber) → set.union (set.union a (pixels_of cells)) (span c.order c.index) ≡ set.union a (pixels_of (cells ++ c ∷ []))
cell_added a cells c =
    union-assoc a (pixels_of cells) (span c.order c.index)
    ∙ ap (λ (b : NumberSet). set.union a b) (ap (λ (b : NumberSet). set.union (pixels_of cells) b) (sym (pixels_of_single_cell c)) ∙ sym (pixels_of-append cells (c ∷ [])))
