use Rattle.std.proofs.Common.{◌≤◌, ◌∙◌, inr, sym, ap, arith, rules, map, get_or, below_more}
use Rattle.std.specs.FinSet as set
use Rattle.moc_sphere.specs.CellNumber.{cell_count, cell_number}
use Rattle.moc_ranges.specs.Cells.{pixels_of}
use Rattle.moc_ranges.specs.Lemmas.{empty-union}
use Rattle.moc_c.proofs.Failing.{cells_below_count, cell_out_of_range}
use Rattle.moc_c.proofs.Gathering.{one_more, none_left}
use Rattle.moc_c.proofs.arrays.set_of_cells.Goals as goal

pub loop-at-init : goal.loop-at-init
loop-at-init c =
    let all = pixels_of (map (cell_number c.args.order) c.args.cells.now) in
    (ap (λ b. set.union b all) c.new-builder.ensures ∙ empty-union all, λ k h. omega arith)

pub loop-at-preserved : goal.loop-at-preserved
loop-at-preserved c =
    let xs = c.args.cells.now in let i = c.loop-at.at in
    (one_more c.args.order xs i c.loop-at.builder c.add_cell.new.self (search rules) (search rules) ∙ c.loop-at.invariant.0, below_more _ _ c.loop-at.invariant.1 (search rules))

pub returns-in_default-new : goal.returns-in_default-new
returns-in_default-new c =
    let fails : cell_count c.args.order ≤ get_or c.args.cells.now c.loop-at.at 0 = search rules in
    inr (cell_out_of_range c.args.order c.args.cells.now c.loop-at.at (search rules) c.loop-at-test.true c.loop-at.invariant.1 fails)

pub returns : goal.returns
returns c =
    cells_below_count c.args.order c.args.cells.now c.loop-at.at c.in_ok-build.field-0 (search rules) c.loop-at-test.false c.loop-at.invariant.1
    (c.in_ok-build.ensures ∙ sym (none_left c.args.order c.args.cells.now c.loop-at.at c.loop-at.builder c.loop-at-test.false) ∙ c.loop-at.invariant.0)
