use Rattle.std.proofs.Common.{◌++◌, ◌∷◌, [], ap, sym, ◌∙◌, arith, append_assoc, append-nil}
use Rattle.moc_sphere.specs.CellNumber.{cell_number}
use Rattle.moc_ranges.specs.Cells.{cells_of_range}
use Rattle.moc_ranges.proofs.CellRuns.{run_more, run_empty, run_whole}
use Rattle.moc_ranges.proofs.cells.push_run.Goals as goal

pub loop-index-init : goal.loop-index-init
loop-index-init c = record {
  pushed = sym (ap (λ l. c.args.cells.now.items ++ l) (run_empty c.args.order c.args.first) ∙ append-nil c.args.cells.now.items);
  within = omega arith;
}

pub loop-index-preserved : goal.loop-index-preserved
loop-index-preserved c =
    let old = c.args.cells.now.items in
    let i = c.loop-index.index in
    record {
      pushed = c.in_ok-push.ensures.items ∙ ap (λ x. c.loop-index.cells.items ++ x ∷ []) c.of.ensures
          ∙ ap (λ l. l ++ cell_number c.args.order i ∷ []) c.loop-index.invariant.pushed
          ∙ append_assoc old (cells_of_range c.args.order (c.args.first, i)) (cell_number c.args.order i ∷ [])
          ∙ ap (λ l. old ++ l) (sym (run_more c.args.order c.args.first i c.loop-index.auto.index));
      within = omega arith;
    }

pub returns : goal.returns
returns c = c.loop-index.invariant.pushed ∙ ap (λ l. c.args.cells.now.items ++ l) (run_whole c.args.order c.args.first c.loop-index.index c.args.end (omega arith))
