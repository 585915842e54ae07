use Rattle.std.proofs.Common.{◌≡◌, ℕ, ◌<◌, ◌⊎◌, inl, inr, [], ◌∷◌, List, true, false, eqb, length, get_or, Some, None, arith, sym, subst, ◌∙◌, refl}
use Rattle.std.specs.FinSet as set
use Rattle.std.proofs.lemmas.Bool.{eqb-true, false≢true}
use Rattle.moc_sphere.specs.CellNumber.{cell_count}
use Rattle.moc_ranges.specs.Cells.{span}
use Rattle.moc_text.specs.Ascii.{is_separator, Represents}
use Rattle.moc_text.proofs.ReadWords.{progress_none}
use Rattle.moc_text.proofs.Represented.{reading_is}
use Rattle.moc_text.proofs.SingleCell.{represents_cell}
use Rattle.moc_text.proofs.ascii.single.only_cell.Goals as goal

some : (front : List ℕ) → eqb (length front) 0 ≡ false → (front ≡ []) ⊎ (is_separator (get_or front 0 0) ≡ false) → (0 < length front) × (is_separator (get_or front 0 0) ≡ false)
some [] e first = absurd (false≢true (sym e))
some (b ∷ front) e (inl none) = absurd cc
some (b ∷ front) e (inr first) = (omega arith, first)

none : (rest : List ℕ) → eqb (length rest) 0 ≡ true → rest ≡ []
none [] e = refl
none (b ∷ rest) e = absurd (omega (arith, eqb-true (length (b ∷ rest)) 0 e))

pub returns-clause-represents : goal.returns-clause-represents
returns-clause-represents c =
    let text = c.args.text.now in
    let front = c.skip_separators-front in
    let order = c.in-Ok.ensures.0 in
    let cell = c.in-Ok-new.ensures.cell in
    let word = some front.result.now (sym c.is_empty.ensures ∙ c.if-is_empty.false) front.ensures.first in
    let within : c.in_ok-order.cell.value < cell_count c.in_ok-order.order.value = rw (← order.1) cell.0 in
    let is = represents_cell text front.result.now c.in_ok-order.rest.now c.skip_separators.result.now c.in_ok-order.order c.in_ok-order.cell (front.ensures.progress text set.empty None None (progress_none text))
    word.0 word.1 c.in_ok-order.ensures order.0 within (c.skip_separators.ensures.progress text) (none c.skip_separators.result.now (sym c.is_empty-2.ensures ∙ c.if-not-is_empty.false)) in
    rw cell.1 (subst (λ (k : ℕ). Represents text (span k c.in_ok-order.cell.value) (Some k)) (sym order.1) is)

pub returns-clause-reading : goal.returns-clause-reading
returns-clause-reading c = reading_is c.args.text.now _ _ (returns-clause-represents c)
