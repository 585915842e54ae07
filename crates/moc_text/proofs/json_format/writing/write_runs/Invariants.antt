use Rattle.std.proofs.Common.{◌≡◌, ◌++◌, ℕ}
use Rattle.moc_ranges.specs.Cells.{cells_in}
use Rattle.moc_text.specs.Private.JsonWriting.{array_rest}
use Rattle.moc_text.proofs.json_format.writing.write_runs.Given as goal

-- the text so far and the remaining runs are the whole array
abbrev pub invariant-loop-first : goal.invariant-loop-first
invariant-loop-first l = record {
  continues : (goal.iterator-loop-first).can_next l.first-iterator × (goal.iterator-loop-first).is_finite l.first-iterator;
  written : (k : ℕ) → l.text ++ array_rest (cells_in k l.first-iterator) ≡ l.fn.text ++ array_rest (cells_in k l.fn.ranges);
}
