-- Cells in ascending NUNIQ.
use Rattle.std.specs.Prelude.{ℕ, ◌+◌, ◌≤◌, ⊤, List, [], ◌∷◌}
use Rattle.std.specs.List.{AllByRecursion}
use Rattle.moc_sphere.specs.CellNumber.{CellNumber, uniq_of}

-- each cell's NUNIQ number is at least `low`
abbrev pub AllUniqFrom : ℕ → List CellNumber → Type 0
AllUniqFrom low cells = AllByRecursion (λ c. low ≤ uniq_of c) cells

-- each cell has a greater NUNIQ number than those before it
abbrev pub IsSortedUniq : List CellNumber → Type 0
IsSortedUniq [] = ⊤
IsSortedUniq (c ∷ cells) = AllUniqFrom (uniq_of c + 1) cells × IsSortedUniq cells
