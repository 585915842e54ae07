use Rattle.std.proofs.Common.{ℕ, ◌≤◌, ◌∙◌, subst}
use Rattle.moc_forms.proofs.Half.{of_order}
use Rattle.moc_forms.proofs.drawing.push_cell.Goals as goal

pub push_diamonds-requires-clause-row : goal.push_diamonds-requires-clause-row
push_diamonds-requires-clause-row c =
    let small : c.args.cell.order ≤ 29 =
    subst (λ (k : ℕ). k ≤ 29) (c.get.ensures.value ∙ c.order.ensures) c.get.ensures.in_range in
    let row = c.row_column-row.ensures.row_in_range in
    (row.0, of_order 4 c.args.cell.order c.row_column-row.result.0 small row.1)

pub push_diamonds-requires-clause-column : goal.push_diamonds-requires-clause-column
push_diamonds-requires-clause-column c =
    let small : c.args.cell.order ≤ 29 =
    subst (λ (k : ℕ). k ≤ 29) (c.get.ensures.value ∙ c.order.ensures) c.get.ensures.in_range in
    of_order 8 c.args.cell.order c.row_column-row.result.1 small c.row_column-row.ensures.column_in_range
