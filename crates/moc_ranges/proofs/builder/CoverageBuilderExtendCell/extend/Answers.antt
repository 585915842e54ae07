use Rattle.std.proofs.Common.{ap, ◌∙◌}
use Rattle.std.specs.FinSet as set
use Rattle.moc_blocks.specs.RangeList.{NumberSet}
use Rattle.moc_ranges.specs.Cells.{span}
use Rattle.moc_ranges.proofs.Gathering.{no_cells_added, cell_added}
use Rattle.moc_ranges.proofs.builder.CoverageBuilderExtendCell.extend.Goals as goal

pub loop-cell-init : goal.loop-cell-init
loop-cell-init g c = no_cells_added c.args.self.now

pub loop-cell-preserved : goal.loop-cell-preserved
loop-cell-preserved g c =
    let cell = c.in-Some.cell in
    c.in_ok-add_cell.ensures.added
    ∙ ap (λ (a : NumberSet). set.union a (span cell.order cell.index)) c.loop-cell.invariant
    ∙ cell_added c.args.self.now c.loop-cell.yielded cell
