use Rattle.std.proofs.Common.{◌∷◌, [], ◌<◌, ap, arith, rules, refl}
use Rattle.moc_sphere.specs.CellNumber.{CellNumber, cell_count}
use Rattle.moc_ranges.specs.Cells.{span}
use Rattle.moc_c.proofs.Failing.{cells_below_count}
use Rattle.moc_c.proofs.Gathering.{pixels_of_one_cell, one_below}
use Rattle.moc_c.proofs.arrays.only_cell.Goals as goal

pub returns-in-Ok : goal.returns-in-Ok
returns-in-Ok c =
    let below : c.args.index < cell_count c.args.order = search rules in
    cells_below_count c.args.order (c.args.index ∷ []) 1 (span c.in-Ok.cell.order c.in-Ok.cell.index) (search rules) (omega arith)
    (one_below c.args.index (cell_count c.args.order) below)
    (pixels_of_one_cell c.args.order c.args.index _ (ap (λ (k : CellNumber). span k.order k.index) c.in-Ok.ensures.cell.1))
