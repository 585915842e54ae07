-- The corner points of cells, by row and by column in the row; when two cells touch (Górski et al. 2005).
use Rattle.std.specs.Prelude.{◌≡◌, ◌≢◌, ℕ, ◌+◌, ◌-◌, ◌*◌, ◌/◌, ◌%◌, ◌^◌, ◌<◌, min, List, [], ◌∷◌, Contains, Bool, not}
use Rattle.std.specs.Prelude.{true, false, map, nat_le, ◌==◌, ◌&&◌, if◌then◌else◌}
use Rattle.std.specs.List.{filter, list_any, range_with_len}
use Rattle.moc_sphere.specs.CellNumber.{cell_count}
use Rattle.moc_sphere.specs.Faces.{face_of, x_of, y_of}
use Rattle.moc_sphere.specs.Rings.{row_factor, column_at}
use Rattle.moc_sphere.specs.declared.direction.Direction.{Direction}
use Rattle.moc_sphere.specs.declared.direction.Direction.TheVariants.{SouthWest, West, NorthWest, North}
use Rattle.moc_sphere.specs.declared.direction.Direction.TheVariants.{NorthEast, East, SouthEast, South}

-- The row of the corner (X, Y) of base pixel f, from 0 at the north pole to 4n at the south pole.
unfoldable pub corner_row : ℕ → ℕ → ℕ → ℕ → ℕ
corner_row n f X Y = row_factor f * n - X - Y

-- The column of a corner m rows from a pole, in whole steps. The pole itself has column 0. Otherwise 4m steps go round,
-- m for each of the four base pixels that meet at the pole; (X + m - Y) / 2 of them are to the east of the base pixel's
-- western edge.
unfoldable pub polar_column : ℕ → ℕ → ℕ → ℕ → ℕ
polar_column m f X Y = if m == 0 then 0 else ((f % 4 * m + (X + m - Y) / 2) % (4 * m))

-- The column of the corner (X, Y) of base pixel f. In the belt (rows n to 3n), it is counted as the column of a cell,
-- in half steps, with 8n round the sky. In a cap, it is counted round the near pole.
unfoldable pub corner_column : ℕ → ℕ → ℕ → ℕ → ℕ
corner_column n f X Y =
    let R = corner_row n f X Y in
    if nat_le n R && nat_le R (3 * n) then column_at n f X Y else polar_column (min R (4 * n - R)) f X Y

-- A point of the sphere, by its row and its column in that row.
pub record Point : Type 0 where
  pub row : ℕ
  pub column : ℕ

-- The point at the corner (X, Y) of base pixel f.
abbrev pub corner_point : ℕ → ℕ → ℕ → ℕ → Point
corner_point n f X Y = record { row = corner_row n f X Y; column = corner_column n f X Y }

-- The four points at the corners of cell i of order k: south, east, west and north.
unfoldable pub corner_points : ℕ → ℕ → List Point
corner_points k i =
    let n = 2 ^ k in
    let f = face_of k i in
    let x = x_of k i in
    let y = y_of k i in
    corner_point n f x y ∷ corner_point n f (x + 1) y ∷ corner_point n f x (y + 1) ∷ corner_point n f (x + 1) (y + 1)
    ∷ []

-- Two cells i and j of order k touch: they are different, and share a corner point.
pub record Touches (k i j : ℕ) : Type 0 where
  pub first : i < cell_count k
  pub second : j < cell_count k
  pub distinct : i ≢ j
  pub point : Point
  pub in_first : Contains (corner_points k i) point
  pub in_second : Contains (corner_points k j) point

-- Whether two points are equal.
abbrev pub is_same_point : Point → Point → Bool
is_same_point p q = (p.row == q.row) && (p.column == q.column)

-- Whether two cells of order k touch, as a Boolean.
unfoldable pub is_touching : ℕ → ℕ → ℕ → Bool
is_touching k i j =
    not (i == j) && list_any (λ p. list_any (is_same_point p) (corner_points k j)) (corner_points k i)

-- The cells that touch cell i of order k, in ascending order. The definition searches all cells of the order.
unfoldable pub touching_cells : ℕ → ℕ → List ℕ
touching_cells k i = filter (is_touching k i) (range_with_len 0 (cell_count k))

-- For each corner point of cell i (south, east, west and north), whether cell j has it too; all four if j is i.
unfoldable pub corners_shared : ℕ → ℕ → ℕ → List Bool
corners_shared k i j = map (λ p. list_any (is_same_point p) (corner_points k j)) (corner_points k i)

-- The corners that a cell shares with its neighbour in a direction: both ends of a side, or the one corner in this
-- direction.
abbrev pub corners_of : Direction → List Bool
corners_of SouthWest = true ∷ false ∷ true ∷ false ∷ []
corners_of West = false ∷ false ∷ true ∷ false ∷ []
corners_of NorthWest = false ∷ false ∷ true ∷ true ∷ []
corners_of North = false ∷ false ∷ false ∷ true ∷ []
corners_of NorthEast = false ∷ true ∷ false ∷ true ∷ []
corners_of East = false ∷ true ∷ false ∷ false ∷ []
corners_of SouthEast = true ∷ true ∷ false ∷ false ∷ []
corners_of South = true ∷ false ∷ false ∷ false ∷ []

-- Cell j of order k is the neighbour of cell i in a direction: it shares exactly the corners in this direction.
abbrev pub IsNeighbour : ℕ → Direction → ℕ → ℕ → Type 0
IsNeighbour k d i j = (j < cell_count k) × (corners_shared k i j ≡ corners_of d)

-- The position of a direction in healpy's order, from 0.
abbrev pub healpy_index : Direction → ℕ
healpy_index SouthWest = 0
healpy_index West = 1
healpy_index NorthWest = 2
healpy_index North = 3
healpy_index NorthEast = 4
healpy_index East = 5
healpy_index SouthEast = 6
healpy_index South = 7
