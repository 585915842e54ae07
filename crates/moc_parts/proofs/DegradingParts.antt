-- Degrading keeps each pixel in its base pixel.
use Rattle.std.proofs.Common.{◌≡◌, ℕ, ◌+◌, ◌-◌, ◌*◌, ◌/◌, ◌^◌, ◌≤◌, true, nat_lt, sym, ap, ◌∙◌, arith, eq-eqb, eqb-true, pow-add}
use native.Mathlib.Nat.{div-div-eq-div-mul}
use Rattle.std.specs.FinSet as set
use Rattle.moc_lists.specs.RangeList.{NumberSet, pixel_count}
use Rattle.moc_lists.specs.Lemmas.Members.{same_members}
use Rattle.moc_ranges.specs.Lemmas.Members.{meets-some, contains-span, contains-degrade}
use Rattle.moc_ranges.specs.Operations.{base_pixel_size, part_of}
use Rattle.moc_sphere.specs.CellNumber.{cell_size}
use Rattle.moc_ranges.specs.Cells.{span, degrade}
use Rattle.moc_parts.proofs.Members.{and_true, both, same_test, meets_at, in_part, of_part}

-- a cell is within one base pixel
pub base_pixel_in_cells : (order : ℕ) → order ≤ 29 → base_pixel_size ≡ cell_size order * 4 ^ order
unfolding cell_size
base_pixel_in_cells order l = ap (λ n. 4 ^ n) (let e : 29 ≡ (29 - order) + order = omega arith in e) ∙ pow-add 4 (29 - order) order

pub one_part : (order p q : ℕ) → order ≤ 29 → q / cell_size order ≡ p / cell_size order → q / base_pixel_size ≡ p / base_pixel_size
one_part order p q l e =
    ap (λ n. q / n) (base_pixel_in_cells order l) ∙ sym (div-div-eq-div-mul q (cell_size order) (4 ^ order))
    ∙ ap (λ n. n / 4 ^ order) e
    ∙ div-div-eq-div-mul p (cell_size order) (4 ^ order) ∙ ap (λ n. p / n) (sym (base_pixel_in_cells order l))

-- a pixel of a degraded set is in the same cell as a pixel of the set
pub of_degrade : (a : NumberSet) (order p : ℕ) → set.contains (degrade a order) p ≡ true
    → (q : ℕ) × (set.contains a q ≡ true) × (q / cell_size order ≡ p / cell_size order) × (nat_lt p pixel_count ≡ true) × (nat_lt q pixel_count ≡ true)
of_degrade a order p h =
    let k = and_true _ _ (sym (contains-degrade a order p) ∙ h) in
    let m = meets_at a (span order (p / cell_size order)) k.1 in
    let n = and_true _ _ (sym (contains-span order (p / cell_size order) m.0) ∙ m.2) in
    (m.0, m.1, eqb-true _ _ n.1, k.0, n.0)

-- conversely, a pixel in the same cell as a pixel of the set is in the degraded set
pub contained_in_degrade : (a : NumberSet) (order p q : ℕ) → nat_lt p pixel_count ≡ true → nat_lt q pixel_count ≡ true → set.contains a q ≡ true → q / cell_size order ≡ p / cell_size order → set.contains (degrade a order) p ≡ true
contained_in_degrade a order p q in_p in_q h e =
    contains-degrade a order p ∙ both in_p (meets-some a (span order (p / cell_size order)) q h (contains-span order (p / cell_size order) q ∙ both in_q (eq-eqb _ _ e)))

-- part b of a degraded set is the degraded part b
pub part-degrade : (a : NumberSet) (order b : ℕ) → order ≤ 29 → part_of (degrade a order) b ≡ degrade (part_of a b) order
part-degrade a order b l = same_members _ _ (λ p. same_test _ _
    (λ h.
    let k = of_part (degrade a order) b p h in
    let m = of_degrade a order p k.0 in
    contained_in_degrade (part_of a b) order p m.0 m.3 m.4 (in_part a b m.0 m.1 (one_part order p m.0 l m.2 ∙ k.1)) m.2)
    (λ h.
    let m = of_degrade (part_of a b) order p h in
    let k = of_part a b m.0 m.1 in
    in_part (degrade a order) b p (contained_in_degrade a order p m.0 m.3 m.4 k.0 m.2) (sym (one_part order p m.0 l m.2) ∙ k.1)))
