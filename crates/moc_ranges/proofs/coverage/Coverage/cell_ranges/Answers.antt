use Rattle.std.proofs.Common.{subst, ap, sym, ◌∙◌, List, ℕ, arith}
use Rattle.moc_blocks.specs.RangeList.{NumberSet, IsNormal}
use Rattle.moc_ranges.specs.Cells.{cells_in}
use Rattle.moc_ranges.specs.Private.CellRuns.{cells_at}
use Rattle.moc_ranges.proofs.CellPieces.{cells_of_order, pieces_cells, pieces_normal}
use Rattle.moc_ranges.proofs.coverage.Coverage.cell_ranges.Goals as goal

pub returns-clause-cells : goal.returns-clause-cells
returns-clause-cells c =
    let k = c.args.order in
    ap (cells_in k) c.new.ensures
    ∙ pieces_cells k c.ranges-2.result c.ranges-2.ensures.normal (omega arith)
    ∙ ap (λ (a : NumberSet). cells_at a k) c.ranges-2.ensures.set
    ∙ cells_of_order c.args.self.now k (omega arith)

pub returns-clause-normal : goal.returns-clause-normal
returns-clause-normal c =
    subst (λ (rs : List (ℕ × ℕ)). IsNormal rs) (sym c.new.ensures) (pieces_normal c.args.order c.ranges-2.result c.ranges-2.ensures.normal (omega arith))
