-- The result for the cell, or its error.
use Rattle.std.proofs.Common.{◌≡◌, Ok, Err, ℕ, sym, ap, ◌∙◌, rules}
use Rattle.moc_lines.specs.Language.{◌>>=◌}
use Rattle.moc_lines.specs.Numberings.{cell_number_in}
use Rattle.moc_lines.proofs.renumbering.Renumbering.apply.Goals as goal

pub returns-in_err-cell : goal.returns-in_err-cell
returns-in_err-cell c =
    let passed : c.from_residual.result ≡ Err c.in_err-cell.field-0.0 = search rules in
    passed ∙ ap (λ r. r >>= (λ i. Ok (cell_number_in c.args.self.to c.args.self.order i))) (sym c.in_err-cell.ensures)

pub returns : goal.returns
returns c =
    let cell = c.in_ok-cell.cell in
    let number = c.number.ensures ∙ ap (λ k. cell_number_in c.args.self.to k cell.index) c.in_ok-cell.ensures.0 in
    ap (λ (n : ℕ). Ok n) number ∙ ap (λ r. r >>= (λ i. Ok (cell_number_in c.args.self.to c.args.self.order i))) (sym c.in_ok-cell.ensures.1)
