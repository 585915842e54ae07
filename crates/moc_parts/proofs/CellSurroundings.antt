-- The pixels of a cell and of the cells that touch it are in the base pixels of these cells.
use Rattle.std.proofs.Common.{◌≡◌, ℕ, ◌/◌, ◌^◌, ◌<◌, ◌≤◌, true, inl, inr, List, [], ◌∷◌, ◌++◌, map, nat_eq, refl, sym, ap, ◌∙◌, arith, eq-eqb, eqb-true}
use Rattle.std.proofs.lemmas.List.{map-append}
use Rattle.std.specs.Ordering.{nat_cmp}
use native.Mathlib.Nat.{div-div-eq-div-mul}
use Rattle.std.specs.List.{list_any}
use Rattle.std.specs.FinSet as set
use Rattle.std.proofs.Math.Nat.{one-le-pow}
use Rattle.std.proofs.lemmas.Nat.{div_below}
use Rattle.moc_sphere.specs.CellNumber.{CellNumber, cell_number, cell_size, IsCell}
use Rattle.moc_sphere.specs.Faces.{face_of}
use Rattle.moc_ranges.specs.Operations.{base_pixel_size}
use Rattle.moc_ranges.specs.Cells.{span, spans, pixels_of}
use Rattle.moc_ranges.specs.Lemmas.Members.{contains-span}
use Rattle.moc_ranges.specs.Lemmas.{spans-one, empty-union, union-empty, pixels_of-append}
use Rattle.moc_parts.specs.Objects.{base_pixel}
use Rattle.moc_parts.specs.Commands.{cells_around, surroundings, parts_around}
use Rattle.moc_parts.proofs.Members.{absurd_bool, has-empty, has-union, and_true, or_true, or_left, or_right}
use Rattle.moc_parts.proofs.DegradingParts.{base_pixel_in_cells}

-- a pixel of a cell is in the base pixel of the cell
pub in_face : (k index p : ℕ) → k ≤ 29 → set.contains (span k index) p ≡ true → face_of k index ≡ p / base_pixel_size
in_face k index p l h =
    let e : p / cell_size k ≡ index = eqb-true _ _ (and_true _ _ (sym (contains-span k index p) ∙ h)).1 in
    sym (ap (λ n. p / n) (base_pixel_in_cells k l) ∙ sym (div-div-eq-div-mul p (cell_size k) (4 ^ k)) ∙ ap (λ n. n / 4 ^ k) e)

in_faces : (k : ℕ) (indices : List ℕ) (p : ℕ) → k ≤ 29 → set.contains (pixels_of (map (cell_number k) indices)) p ≡ true
    → list_any (λ index. nat_eq (face_of k index) (p / base_pixel_size)) indices ≡ true
unfolding pixels_of
in_faces k [] p l h = absurd_bool (set.contains {R = nat_cmp} set.empty p) h (has-empty p)
in_faces k (index ∷ indices) p l h =
    let others = pixels_of (map (cell_number k) indices) in
    elim (or_true (set.contains (span k index) p) (set.contains others p) (sym (has-union (span k index) others p) ∙ h)) [
      | inl here ↦ or_left _ _ (eq-eqb (face_of k index) (p / base_pixel_size) (in_face k index p l here))
      | inr later ↦ or_right _ _ (in_faces k indices p l later)
    ]

-- a pixel in the surroundings of a cell is in a base pixel of the surroundings
pub around_surroundings : (c : CellNumber) → IsCell c → (p : ℕ) → set.contains (surroundings c) p ≡ true → parts_around c (base_pixel p) ≡ true
unfolding base_pixel surroundings
around_surroundings c k p h = in_faces c.order (cells_around c) p k.order_in_range h

-- the first cell
pub pixels_of_single_index : (k index : ℕ) → set.union set.empty (spans k index index) ≡ pixels_of (map (cell_number k) (index ∷ []))
unfolding pixels_of
pixels_of_single_index k index = empty-union (spans k index index) ∙ spans-one k index ∙ sym (union-empty (span k index))

-- one more cell
pub one_cell_more : (k : ℕ) (indices : List ℕ) (index : ℕ) → set.union (pixels_of (map (cell_number k) indices)) (spans k index index) ≡ pixels_of (map (cell_number k) (indices ++ index ∷ []))
unfolding pixels_of
one_cell_more k indices index =
    ap (λ a. set.union (pixels_of (map (cell_number k) indices)) a) (spans-one k index ∙ sym (union-empty (span k index)))
    ∙ sym (pixels_of-append (map (cell_number k) indices) (cell_number k index ∷ []))
    ∙ ap pixels_of (sym (map-append (cell_number k) indices (index ∷ [])))

-- the base pixel of the cell is one of the twelve
pub some_around : (c : CellNumber) → IsCell c → (b : ℕ) × (b < 12) × (parts_around c b ≡ true)
some_around c k =
    let f : ℕ = face_of c.order c.index in
    (f, div_below c.index (4 ^ c.order) 12 (one-le-pow c.order 4 (omega arith)) k.index_in_range, or_left _ _ (eq-eqb f f refl))
