use Rattle.std.proofs.Common.{◌≡◌, ◌++◌}
use Rattle.std.specs.List.{AllByRecursion}
use Rattle.moc_sphere.specs.CellNumber.{IsCell}
use Rattle.moc_ranges.specs.Cells.{cells_in}
use Rattle.moc_ranges.proofs.cells.push_runs.Given as goal

abbrev pub invariant-loop-first : goal.invariant-loop-first
invariant-loop-first l = record {
  continues : (goal.iterator-loop-first).can_next l.first-iterator × (goal.iterator-loop-first).is_finite l.first-iterator;
  cells : AllByRecursion IsCell (cells_in l.order l.first-iterator);
  pushed : l.cells.items ++ cells_in l.order l.first-iterator ≡ l.fn.cells.items ++ cells_in l.order l.fn.runs;
}
