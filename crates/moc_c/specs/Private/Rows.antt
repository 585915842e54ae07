-- Rows of nearby cells.
use Rattle.std.specs.Prelude.{ℕ, List, [], EachIndex, slice_index, slice_index_or}
use Rattle.moc_sphere.specs.Touching.{touching_cells}
use Rattle.moc_c.specs.Buffers.{IsPadded, IsNeighbourRow}
use Rattle.moc_c.specs.declared.cells.NearbyKind.{NearbyKind}
use Rattle.moc_c.specs.declared.cells.NearbyKind.TheVariants.{Touching, Neighbours}

-- the row lists the nearby cells of cell i of order k
abbrev pub IsRowOf : NearbyKind → ℕ → ℕ → List ℕ → Type 0
IsRowOf (Touching alloc) k i row = IsPadded (touching_cells k i) row
IsRowOf Neighbours k i row = IsNeighbourRow k i row

-- each row lists the nearby cells of the cell at its position
abbrev pub AreRowsOf : NearbyKind → ℕ → List ℕ → List (List ℕ) → Type 0
AreRowsOf near k cells nearby_rows =
    EachIndex cells (λ j. IsRowOf near k (slice_index cells j) (slice_index_or nearby_rows j []))
