use Rattle.std.proofs.Common.{◌≡◌, List, [], ◌∷◌, ◌++◌, decimal, drop, ℕ}
use Rattle.std.specs.List.{flat_map}
use Rattle.std.specs.String.{string_bytes}
use Rattle.moc_sphere.specs.CellNumber.{CellNumber, uniq_of}
use Rattle.moc_text.proofs.uniq.push_numbers.Given as goal

-- the lines of cells
abbrev lines : List CellNumber → List ℕ
lines cells = flat_map (λ c. decimal (uniq_of c) ++ 10 ∷ []) cells

-- the text so far and the remaining lines are the whole text
abbrev pub invariant-loop-cell : goal.invariant-loop-cell
invariant-loop-cell l = string_bytes l.text ++ lines (drop l.cell-index l.cells) ≡ string_bytes l.fn.text ++ lines l.cells
