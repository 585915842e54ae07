use Rattle.std.proofs.Common.{◌≡◌, ◌++◌, List, ℕ}
use Rattle.moc_sphere.specs.CellNumber.{CellNumber}
use Rattle.moc_ranges.specs.Cells.{cells_of_range}
use Rattle.moc_text.specs.Private.JsonWriting.{array_rest}
use Rattle.moc_text.proofs.json_format.writing.write_run.Given as goal

-- the text so far and the remaining indices are the whole run
abbrev pub invariant-loop-index : goal.invariant-loop-index
invariant-loop-index l = (k : ℕ) (rest : List CellNumber) → l.text ++ array_rest (cells_of_range k (l.index, l.fn.end) ++ rest) ≡ l.fn.text ++ array_rest (cells_of_range k (l.first, l.fn.end) ++ rest)
