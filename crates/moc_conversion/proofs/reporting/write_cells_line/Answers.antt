-- The order, its last cell, and the line feed.
use Rattle.std.proofs.Common.{◌∙◌, ◌-◌, ℕ, List, ◌++◌, Ok, ap, codes, decimal, refl}
use Rattle.moc_sphere.specs.CellNumber.{cell_count}
use Rattle.moc_conversion.proofs.Sending.{writes_all, writes_as, writes_first, writes_next}
use Rattle.moc_conversion.proofs.reporting.write_cells_line.Goals as goal

-- the order, and its last cell
abbrev order_text : ℕ → List ℕ
order_text order = codes "cells of order " ++ decimal order

abbrev last_text : ℕ → List ℕ
last_text last = codes " go up to " ++ decimal last

pub returns-in_err-write_number : goal.returns-in_err-write_number
returns-in_err-write_number g c =
    let order = order_text c.args.order in
    let last = last_text (cell_count c.args.order - 1) in
    let err = c.from_residual.ensures.0 in
    writes_first _ _ (order ++ last) (codes "\n") _ _ _ _ (writes_first _ _ order last _ _ _ _
    (writes_as _ _ _ _ _ _ _ (ap order_text (c.from.ensures ∙ c.get.ensures.value)) c.in_err-write_number.ensures) refl err) err err

pub returns-in_err-write_number-2 : goal.returns-in_err-write_number-2
returns-in_err-write_number-2 g c =
    let order = order_text c.args.order in
    let last = last_text (cell_count c.args.order - 1) in
    writes_first _ _ (order ++ last) (codes "\n") _ _ _ _ (writes_next _ _ order last _ _ _ _ _
    (writes_as _ _ _ _ _ _ _ (ap order_text (c.from.ensures ∙ c.get.ensures.value)) c.in_ok-write_number.ensures)
    (writes_as _ _ _ _ _ _ _ (ap last_text (c.saturating_sub.ensures ∙ ap (λ n. n - 1) c.cell_count.ensures)) c.in_err-write_number-2.ensures))
    refl c.from_residual-in_err-write_number-2.ensures.0

pub returns : goal.returns
returns g c =
    let order = order_text c.args.order in
    let last = last_text (cell_count c.args.order - 1) in
    writes_next _ _ (order ++ last) (codes "\n") _ _ _ _ _ (writes_next _ _ order last _ _ _ _ (Ok tt)
    (writes_as _ _ _ _ _ _ _ (ap order_text (c.from.ensures ∙ c.get.ensures.value)) c.in_ok-write_number.ensures)
    (writes_as _ _ _ _ _ _ _ (ap last_text (c.saturating_sub.ensures ∙ ap (λ n. n - 1) c.cell_count.ensures)) c.in_ok-write_number-2.ensures))
    (writes_all _ _ _ _ _ _ _ c.write_all.result c.write_all.ensures.written c.write_all.ensures.sends c.write_all.ensures.writes)
