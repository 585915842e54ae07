use Rattle.std.proofs.Common.{◌-◌, ◌/◌, ◌^◌, ◌≤◌, ap, subst, sym, ◌∙◌, arith}
use Rattle.moc_sphere.specs.CellNumber.{CellNumber, IsInSpan, cell_number}
use Rattle.moc_sphere.proofs.CellFacts.{ancestor_code, ancestor_fits, ancestor_has}
use Rattle.moc_sphere.proofs.cell.Cell.ancestor.Goals as goal

pub invariant_of-result : goal.invariant_of-result
invariant_of-result c =
    let h = c.in_ok-levels.ensures in
    let code = ancestor_code c.self.inside.order c.args.order _ _ _ c.self.inside.index c.get.ensures.value c.get-2.ensures.value h.0 h.1 in
    omega (arith, code.1, ancestor_fits c.self.inside.order c.args.order c.self.inside.index code.0 c.self.invariant)

pub returns-clause-cell : goal.returns-clause-cell
returns-clause-cell c =
    let h = c.in_ok-levels.ensures in
    let code = ancestor_code c.self.inside.order c.args.order _ _ _ c.self.inside.index c.get.ensures.value c.get-2.ensures.value h.0 h.1 in (
      subst (λ (s : CellNumber). c.args.order ≤ s.order) c.self.view_is code.0,
      ap (cell_number c.args.order) code.1
          ∙ ap (λ (s : CellNumber). cell_number c.args.order (s.index / 4 ^ (s.order - c.args.order))) c.self.view_is,
    )

pub returns-clause-pixels : goal.returns-clause-pixels
returns-clause-pixels c =
    let h = c.in_ok-levels.ensures in
    let code = ancestor_code c.self.inside.order c.args.order _ _ _ c.self.inside.index c.get.ensures.value c.get-2.ensures.value h.0 h.1 in
    λ p inside.
    ancestor_has c.self.inside.order c.args.order c.self.inside.index p code.0 (omega (arith, c.get.ensures.value, c.get.ensures.in_range))
    (subst (λ (s : CellNumber). IsInSpan s p) (sym c.self.view_is) inside)
    ∙ sym code.1
