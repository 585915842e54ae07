use Rattle.std.proofs.Common.{◌≡◌, ℕ, ◌^◌, ap, sym, subst, ◌∙◌}
use Rattle.std.specs.Prelude.{MatchOption, Option}
use Rattle.moc_sphere.specs.CellNumber.{CellNumber}
use Rattle.moc_sphere.specs.Private.Sides.{IsAtStep}
use Rattle.moc_sphere.proofs.Search.{not_at_step}
use Rattle.moc_sphere.proofs.neighbours.at_step.Goals as goal

pub returns-in_err-to : goal.returns-in_err-to
returns-in_err-to c =
    let k = c.args.cell.order in
    let i = c.args.cell.index in
    let side = c.nside.ensures.value ∙ ap (λ o. 2 ^ o) c.order-order.ensures in
    let none =
    not_at_step k i c.args.step _ c.args.from.face c.args.from.x c.args.from.y side
    (sym c.requires.place.face) (sym c.requires.place.right) (sym c.requires.place.up) c.in_err-to.ensures in
    subst (λ (r : Option CellNumber). MatchOption r ((j : ℕ) → ¬ IsAtStep k i c.args.step j) (λ to. (to.order ≡ k) × IsAtStep k i c.args.step to.index))
    (sym c.from_residual.ensures) none
