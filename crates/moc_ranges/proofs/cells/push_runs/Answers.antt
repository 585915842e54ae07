use Rattle.std.proofs.Common.{◌++◌, List, ℕ, ap, sym, subst, ◌∙◌, append_assoc}
use Rattle.std.specs.List.{AllByRecursion}
use Rattle.moc_sphere.specs.CellNumber.{IsCell}
use Rattle.moc_ranges.specs.Cells.{cells_in, cells_of_range}
use Rattle.moc_ranges.proofs.CellPieces.{run_fits, later_cells}
use Rattle.moc_ranges.proofs.cells.push_runs.Goals as goal

pub push_run-requires : goal.push_run-requires
push_run-requires c =
    let k = c.args.order in
    run_fits k (c.in-Some.first, c.in-Some.end) (cells_in k c.next.new.self) (subst (λ (rs : List (ℕ × ℕ)). AllByRecursion IsCell (cells_in k rs)) c.in-Some.ensures.steps c.loop-first.invariant.cells)

pub loop-first-preserved : goal.loop-first-preserved
loop-first-preserved c =
    let k = c.args.order in
    let r : ℕ × ℕ = (c.in-Some.first, c.in-Some.end) in
    let rest = c.next.new.self in
    let items = c.loop-first.cells.items in
    record {
      continues = (tt, tt);
      cells = later_cells (cells_of_range k r) (cells_in k rest) (subst (λ (rs : List (ℕ × ℕ)). AllByRecursion IsCell (cells_in k rs)) c.in-Some.ensures.steps c.loop-first.invariant.cells);
      pushed = ap (λ l. l ++ cells_in k rest) c.in_ok-push_run.ensures
          ∙ append_assoc items (cells_of_range k r) (cells_in k rest)
          ∙ ap (λ (rs : List (ℕ × ℕ)). items ++ cells_in k rs) (sym c.in-Some.ensures.steps)
          ∙ c.loop-first.invariant.pushed;
    }
