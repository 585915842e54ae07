-- Two cells touch exactly if a step of less than two cells leads from one to the other.
use Rattle.std.proofs.Common.{◌≡◌, ℕ, ◌+◌, ◌*◌, ◌/◌, ◌%◌, ◌^◌, ◌<◌, arith, ap, sym}
use Rattle.moc_sphere.specs.Faces.{face_of, x_of, y_of}
use Rattle.moc_sphere.specs.Touching.{Touches}
use Rattle.moc_sphere.proofs.Shared.{Touches-from_shared, shared_from_Touches}
use Rattle.moc_sphere.specs.Private.Sides.{IsAtStep, IsBeside}
use Rattle.moc_sphere.proofs.Points.{IsSameCorner-from_same_point}
use Rattle.moc_sphere.proofs.Names.{same_point-from_Meets}
use Rattle.moc_sphere.proofs.Cells.{Reaches, Reaches-from_corners, Shared-from_beside, apart_from_beside}
use Rattle.moc_sphere.proofs.FaceBounds.{face_of-below, x_of-below, y_of-below, side_positive, same_cell}

pub Touches-from_step : (k i d j : ℕ) → i < 12 * 4 ^ k → d < 9 → (d ≡ 4 → ⊥) → IsAtStep k i d j → Touches k i j
Touches-from_step k i d j ib db off (jb, h) =
    let f = face_of-below k i ib in
    let x = x_of-below k i in
    let y = y_of-below k i in
    let s = Shared-from_beside (2 ^ k) (face_of k i) (x_of k i) (y_of k i) (d / 3) (d % 3) (face_of k j) (x_of k j) (y_of k j) f x y
    (omega arith) (omega arith) h in
    Touches-from_shared k i j ib jb
    (λ e. apart_from_beside (2 ^ k) (face_of k i) (x_of k i) (y_of k i) (d / 3) (d % 3) (face_of k j) (x_of k j) (y_of k j) f x y
    (omega arith) (omega arith) (λ p q. off (omega arith)) h (ap (face_of k) e) (ap (x_of k) e) (ap (y_of k) e))
    (record {
      X = s.X;
      Y = s.Y;
      Z = s.Z;
      W = s.W;
      in_first = s.in_first;
      in_second = s.in_second;
      point =
          let mx = s.in_first.to_x in
          let my = s.in_first.to_y in
          same_point-from_Meets (2 ^ k) (face_of k i) (face_of k j) s.X s.Y s.Z s.W (side_positive k) f (omega arith) (omega arith) s.meets;
    })

-- the number of the step, and that no step but step 4 leads to the cell itself
index_of_reached : (n f x y g z w : ℕ) → x < n → y < n → Reaches n f x y g z w
    → (d : ℕ) × (d < 9) × (d ≡ 4 → (f ≡ g) × (x ≡ z) × (y ≡ w)) × IsBeside n f (x + d / 3) (y + d % 3) g z w
index_of_reached n f x y g z w xn yn (a, b, an, bn, h) =
    let p : (3 * a + b) / 3 ≡ a = omega arith in
    let q : (3 * a + b) % 3 ≡ b = omega arith in (
      3 * a + b,
      omega arith,
      λ e. itself n f x y a b g z w xn yn (omega arith) (omega arith) h,
      rw (p, q) h,
    )
  where
    itself : (n f x y a b g z w : ℕ) → x < n → y < n → a ≡ 1 → b ≡ 1 → IsBeside n f (x + a) (y + b) g z w → (f ≡ g) × (x ≡ z) × (y ≡ w)
    itself n f x y a b g z w xn yn ae be h = grind arith

pub step_from_Touches : (k i j : ℕ) → Touches k i j → (d : ℕ) × (d < 9) × (d ≡ 4 → ⊥) × IsAtStep k i d j
step_from_Touches k i j t =
    let v = shared_from_Touches k i j t in
    let f = face_of-below k i t.first in
    let g = face_of-below k j t.second in
    let x = x_of-below k i in
    let y = y_of-below k i in
    let z = x_of-below k j in
    let w = y_of-below k j in
    let mx = v.in_first.to_x in
    let my = v.in_first.to_y in
    let yx = v.in_second.to_x in
    let yy = v.in_second.to_y in
    let m = IsSameCorner-from_same_point (2 ^ k) (face_of k i) (face_of k j) v.X v.Y v.Z v.W (side_positive k) f g
    (omega arith) (omega arith) (omega arith) (omega arith) v.point in
    let r = Reaches-from_corners (2 ^ k) (face_of k i) (x_of k i) (y_of k i) v.X v.Y (face_of k j) (x_of k j) (y_of k j) v.Z v.W f x y z w
    v.in_first v.in_second m in
    let u = index_of_reached (2 ^ k) (face_of k i) (x_of k i) (y_of k i) (face_of k j) (x_of k j) (y_of k j) x y r in
    (u.0, u.1, λ e. t.distinct (let q = u.2 e in same_cell k i j q.0 q.1 q.2), (t.second, u.3))

pub Touches-sym : (k i j : ℕ) → Touches k i j → Touches k j i
Touches-sym k i j t = record {
  first = t.second;
  second = t.first;
  distinct = λ e. t.distinct (sym e);
  point = t.point;
  in_first = t.in_second;
  in_second = t.in_first;
}
