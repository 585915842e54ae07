use Rattle.std.proofs.Common.{ap, ◌∙◌, ◌^◌, ◌*◌, ◌-◌, refl, ◌≡◌}
use Rattle.moc_sphere.specs.CellNumber.{cell_size}
use Rattle.moc_ranges.proofs.CellRuns.{two_pow}
use Rattle.moc_ranges.proofs.cell_ranges.inner_cells.Goals as goal

pub returns : goal.returns
returns c =
    let k = c.args.order in
    let width : 2 ^ (2 * (29 - c.get.result)) ≡ cell_size k = ap (λ n. 2 ^ (2 * (29 - n))) c.get.ensures.value ∙ two_pow k in
    rw (width, c.cell_size-size.ensures.size) refl
