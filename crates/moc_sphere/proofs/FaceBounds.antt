-- The bounds of a cell's coordinates in its base pixel; coordinates identify the cell.
use Rattle.std.proofs.Common.{◌≡◌, ℕ, ◌^◌, ◌<◌, subst}
use Rattle.std.proofs.lemmas.Nat.{pow_pos}
use Rattle.moc_sphere.specs.CellNumber.{cell_count}
use Rattle.moc_sphere.specs.Faces.{face_of, x_of, y_of}
use Rattle.moc_sphere.proofs.Places.{x_of-lt, y_of-lt}
use Rattle.moc_sphere.proofs.RingCount.{face_in_range, index_of-face, index_in_range, same_index}

pub side_positive : (k : ℕ) → 0 < 2 ^ k
side_positive k = pow_pos k

pub face_of-below : (k i : ℕ) → i < cell_count k → face_of k i < 12
face_of-below k i l = face_in_range k i l

pub x_of-below : (k i : ℕ) → x_of k i < 2 ^ k
x_of-below k i = x_of-lt k i

pub y_of-below : (k i : ℕ) → y_of k i < 2 ^ k
y_of-below k i = y_of-lt k i

pub same_cell : (k i j : ℕ) → face_of k i ≡ face_of k j → x_of k i ≡ x_of k j → y_of k i ≡ y_of k j → i ≡ j
same_cell k i j f x y = same_index k i j (record { face = f; right = x; up = y })

-- a number whose base pixel is one of the twelve is the index of a cell
pub index_below : (k i : ℕ) → face_of k i < 12 → i < cell_count k
index_below k i l = subst (λ j. j < cell_count k) (index_of-face k i) (index_in_range k (face_of k i) (x_of k i) (y_of k i) l)
