-- The definition, checked against known cells.
use Rattle.std.proofs.Common.{◌≡◌, [], ◌∷◌, refl, true, false}
use Rattle.moc_sphere.specs.Faces.{x_of, y_of}
use Rattle.moc_sphere.specs.Touching.{corner_row, polar_column, corner_column, corner_points, corners_shared, is_touching, touching_cells}

pub cell_0_0 : touching_cells 0 0 ≡ 1 ∷ 2 ∷ 3 ∷ 4 ∷ 5 ∷ 8 ∷ []
unfolding x_of y_of corner_row polar_column corner_column corner_points is_touching touching_cells
cell_0_0 = refl

pub cell_0_4 : touching_cells 0 4 ≡ 0 ∷ 3 ∷ 5 ∷ 7 ∷ 8 ∷ 11 ∷ []
unfolding x_of y_of corner_row polar_column corner_column corner_points is_touching touching_cells
cell_0_4 = refl

pub cell_1_0 : touching_cells 1 0 ≡ 1 ∷ 2 ∷ 3 ∷ 17 ∷ 19 ∷ 22 ∷ 23 ∷ 35 ∷ []
unfolding x_of y_of corner_row polar_column corner_column corner_points is_touching touching_cells
cell_1_0 = refl

pub cell_1_1 : touching_cells 1 1 ≡ 0 ∷ 2 ∷ 3 ∷ 6 ∷ 7 ∷ 22 ∷ 23 ∷ []
unfolding x_of y_of corner_row polar_column corner_column corner_points is_touching touching_cells
cell_1_1 = refl

-- the south-western side
pub cells_0_0_4 : corners_shared 0 0 4 ≡ true ∷ false ∷ true ∷ false ∷ []
unfolding x_of y_of corner_row polar_column corner_column corner_points corners_shared
cells_0_0_4 = refl

-- the northern corner
pub cells_0_0_2 : corners_shared 0 0 2 ≡ false ∷ false ∷ false ∷ true ∷ []
unfolding x_of y_of corner_row polar_column corner_column corner_points corners_shared
cells_0_0_2 = refl
