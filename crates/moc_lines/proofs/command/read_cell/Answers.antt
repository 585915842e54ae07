use Rattle.std.proofs.Common.{◌≡◌, ◌<◌, ◌∙◌, Some, rules, subst, sym}
use Rattle.moc_sphere.specs.CellNumber.{cell_count}
use Rattle.moc_lines.proofs.NearLemmas.{near_is, same_answer}
use Rattle.moc_lines.proofs.command.read_cell.Goals as goal

pub returns-in-Ok-new : goal.returns-in-Ok-new
returns-in-Ok-new c =
    let order = c.in-Ok.ensures.0 in
    let cell = c.in-Ok-new.ensures.cell in
    let depth = c.in_ok-depth.depth in
    let index = c.in_ok-index.index in
    let depth_read : c.parse_decimal.result ≡ Some depth = search rules in
    let index_read : c.parse_decimal-2.result ≡ Some index = search rules in
    sym (near_is c.args.order.now c.args.index.now depth index order.0 (subst (λ k. index < cell_count k) order.1 cell.0) (sym depth_read ∙ c.parse_decimal.ensures) (sym index_read ∙ c.parse_decimal-2.ensures)
    ∙ same_answer depth c.in-Ok.order index c.in-Ok-new.cell order.1 cell.1)
