use Rattle.std.proofs.Common.{Ok, ◌∙◌, ap, sym}
use Rattle.moc_c.proofs.arrays.set_of_cell.Goals as goal

pub returns : goal.returns
returns c = c.in_ok-cell.ensures ∙ ap Ok (sym c.in_ok-from_cell.ensures)
