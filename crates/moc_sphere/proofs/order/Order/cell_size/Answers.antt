use Rattle.std.proofs.Common.{◌*◌, ap, ◌∙◌, arith}
use Rattle.moc_sphere.specs.CellNumber.{cell_count, cell_size}
use Rattle.moc_sphere.specs.Lemmas.{cell_size-fills}
use Rattle.moc_sphere.proofs.CellFacts.{cell_size_code}
use Rattle.moc_sphere.proofs.order.Order.cell_size.Goals as goal

pub returns-clause-size : goal.returns-clause-size
returns-clause-size c =
    cell_size_code c.self.inside.value c.self.invariant ∙ ap cell_size c.self.view_is

pub returns-clause-fills : goal.returns-clause-fills
returns-clause-fills c =
    let level = c.self.inside.value in
    let size = cell_size_code level c.self.invariant in
    ap (λ s. cell_count c.args.self * s) (size ∙ ap cell_size c.self.view_is) ∙ cell_size-fills c.args.self (omega (arith, c.self.view_is, c.self.invariant))
