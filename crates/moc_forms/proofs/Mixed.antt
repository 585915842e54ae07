-- The walk from one cell of order 7 with pixels to the next skips no mixed cell.
use Rattle.std.proofs.Common.{◌≡◌, ℕ, zero, suc, ◌+◌, ◌*◌, ◌/◌, ◌<◌, ◌≤◌, Bool, true, false, List, [], ◌∷◌, ◌++◌}
use Rattle.std.proofs.Common.{refl, sym, ap, ◌∙◌, arith, inl, inr, append-nil, map}
use Rattle.std.specs.Prelude.{◌&&◌, not, nat_lt, nat_eq, if◌then◌else◌}
use Rattle.std.specs.FinSet as set
use Rattle.std.specs.List.{filter, range_with_len}
use Rattle.std.proofs.lemmas.List.{map-append}
use Rattle.std.proofs.lemmas.List.Elements.{filter-append}
use Rattle.std.proofs.lemmas.Bool.{cases_lt, and_parts, eqb-true}
use Rattle.moc_sphere.specs.CellNumber.{cell_number, cell_size}
use Rattle.moc_ranges.specs.Cells.{span}
use Rattle.moc_ranges.specs.Lemmas.Members.{contains-span, meets-none}
use Rattle.moc_lists.specs.RangeList.{NumberSet, pixel_count}
use Rattle.moc_forms.specs.Drawing.{TonedCell, is_mixed, mixed_below, tone_of}
use Rattle.moc_forms.specs.declared.marks.Layers.{Layers}
use Rattle.moc_forms.proofs.Ranges.{range_more}

-- the mark of a mixed cell, if it is mixed
abbrev pub mixed_mark : Layers → ℕ → List TonedCell
mixed_mark l i = if is_mixed l i then (cell_number 7 i, tone_of l i) ∷ [] else []

-- a cell of order 7 has 4^22 pixels
cell_size_of_order_7 : cell_size 7 ≡ 17592186044416
unfolding cell_size
cell_size_of_order_7 = refl

-- the pixels of a cell of order 7 are consecutive
in_cell : (i q : ℕ) → set.contains (span 7 i) q ≡ true → (i * 17592186044416 ≤ q) × (q < (i + 1) * 17592186044416)
in_cell i q in_span =
    let tests : (nat_lt q pixel_count && nat_eq (q / cell_size 7) i) ≡ true = sym (contains-span 7 i q) ∙ in_span in
    let cell : q / cell_size 7 ≡ i =
    eqb-true (q / cell_size 7) i (and_parts (nat_lt q pixel_count) (nat_eq (q / cell_size 7) i) tests).1 in
    let here : q / 17592186044416 ≡ i = ap (λ w. q / w) (sym cell_size_of_order_7) ∙ cell in
    (omega arith, omega arith)

and_false_if_exclusive : (x y : Bool) → (x ≡ true → y ≡ true → ⊥) → (x && y) ≡ false
and_false_if_exclusive true true not_both = absurd (not_both refl refl)
and_false_if_exclusive true false not_both = refl
and_false_if_exclusive false y not_both = refl

-- a set has no number in an interval
abbrev pub HasNone : NumberSet → ℕ → ℕ → Type 0
HasNone a from to = (q : ℕ) → from ≤ q → q < to → set.contains a q ≡ true → ⊥

-- a cell without pixels is not mixed
not_mixed : (l : Layers) (i : ℕ) → HasNone l.all (i * 17592186044416) ((i + 1) * 17592186044416)
    → is_mixed l i ≡ false
unfolding is_mixed
not_mixed l i none =
    ap (λ b. b && not (set.is_subset (span 7 i) l.first) && not (set.is_subset (span 7 i) l.second) && not (set.is_subset (span 7 i) l.both)) (meets-none l.all (span 7 i) (λ q.
    and_false_if_exclusive (set.contains l.all q) (set.contains (span 7 i) q) (λ has in_span.
    let row = in_cell i q in_span in
    none q row.0 row.1 has)))

no_mark : (l : Layers) (i : ℕ) → is_mixed l i ≡ false → mixed_mark l i ≡ []
no_mark l i lacks = ap (λ (b : Bool). if b then (cell_number 7 i, tone_of l i) ∷ [] else []) lacks

map_optional_item : (b : Bool) (f : ℕ → TonedCell) (i : ℕ) → map f (if b then i ∷ [] else []) ≡ (if b then f i ∷ [] else [])
map_optional_item true f i = refl
map_optional_item false f i = refl

-- the marks below the next cell
pub mixed_next : (l : Layers) (i : ℕ) → mixed_below l (i + 1) ≡ mixed_below l i ++ mixed_mark l i
unfolding mixed_below
mixed_next l i =
    let f : ℕ → TonedCell = λ (k : ℕ). (cell_number 7 k, tone_of l k) in
    let before : List ℕ = range_with_len 0 i in
    ap (λ (r : List ℕ). map f (filter (is_mixed l) r)) (range_more i)
    ∙ ap (map f) (filter-append (is_mixed l) before (i ∷ [])) ∙ map-append f (filter (is_mixed l) before) _
    ∙ ap (λ (t : List TonedCell). map f (filter (is_mixed l) before) ++ t) (map_optional_item (is_mixed l i) f i)

-- there is no mark between two cells if no pixel of the set is between them
pub no_marks_between : (l : Layers) (i j : ℕ) → i ≤ j → HasNone l.all (i * 17592186044416) (j * 17592186044416)
    → mixed_below l j ≡ mixed_below l i
no_marks_between l i zero le none = let is : i ≡ 0 = omega arith in ap (mixed_below l) (sym is)
no_marks_between l i (suc j) le none = elim (cases_lt i (suc j)) [
  | inl lt ↦
      let le : i ≤ j = omega arith in
      let here : is_mixed l j ≡ false = not_mixed l j (λ q from to. none q (omega arith) (omega arith)) in
      let next : suc j ≡ j + 1 = omega arith in
      ap (mixed_below l) next ∙ mixed_next l j
      ∙ ap (λ (marks : List TonedCell). mixed_below l j ++ marks) (no_mark l j here)
      ∙ append-nil (mixed_below l j)
      ∙ no_marks_between l i j le (λ q from to. none q from (omega arith))
  | inr ge ↦ let is : i ≡ suc j = omega arith in ap (mixed_below l) (sym is)
]

-- there is no mark below the first cell
pub mixed_none : (l : Layers) → mixed_below l 0 ≡ []
unfolding mixed_below
mixed_none l = refl
