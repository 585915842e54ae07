-- A shared corner point, by its coordinates in both base pixels.
use Rattle.std.proofs.Common.{◌≡◌, ℕ, ◌+◌, ◌^◌, ◌*◌, ◌<◌, ◌≤◌, List, zero, suc, Contains, inl, inr, arith, refl, ap, sym, ◌∙◌, lit<, subst, true}
use Rattle.std.proofs.lemmas.Bool.{cases_eq, and_from, and_parts, eq-eqb, eqb-true, ne_eqb, not_from_false, not_from_true, false≢true}
use Rattle.std.proofs.lemmas.List.Folds.{list_any_at, Any-from_list_any}
use Rattle.std.proofs.lemmas.Map.Views.{Contains-from_any}
use Rattle.std.specs.List.{list_any}
use Rattle.moc_sphere.specs.Faces.{face_of, x_of, y_of}
use Rattle.moc_sphere.specs.Touching.{corner_row, corner_column, Point, corner_point, corner_points, Touches, is_touching, is_same_point}

-- Two corners are the same point of the sphere.
pub record IsSamePoint (n f X Y g Z W : ℕ) : Type 0 where
  pub row : corner_row n f X Y ≡ corner_row n g Z W
  pub column : corner_column n f X Y ≡ corner_column n g Z W

-- (X, Y) is one of the four corners of the cell at (x, y).
pub record IsCorner (x y X Y : ℕ) : Type 0 where
  pub from_x : x ≤ X
  pub to_x : X ≤ x + 1
  pub from_y : y ≤ Y
  pub to_y : Y ≤ y + 1

pub record SharesCorner (k i j : ℕ) : Type 0 where
  pub X : ℕ
  pub Y : ℕ
  pub Z : ℕ
  pub W : ℕ
  pub in_first : IsCorner (x_of k i) (y_of k i) X Y
  pub in_second : IsCorner (x_of k j) (y_of k j) Z W
  pub point : IsSamePoint (2 ^ k) (face_of k i) X Y (face_of k j) Z W

-- the point of a corner is in the list
pub corner_in : (k i X Y : ℕ) → IsCorner (x_of k i) (y_of k i) X Y → Contains (corner_points k i) (corner_point (2 ^ k) (face_of k i) X Y)
unfolding corner_points
corner_in k i X Y c =
    let x = x_of k i in
    let y = y_of k i in
    let at = corner_point (2 ^ k) (face_of k i) in
    let a = c.from_x in
    let b = c.to_x in
    let d = c.from_y in
    let e = c.to_y in
    elim (cases_eq X x) [
      | inl p ↦
          elim (cases_eq Y y) [
            | inl q ↦ (0, lit< tt, ap (λ t. at t y) (sym p) ∙ ap (at X) (sym q))
            | inr q ↦ let r : Y ≡ y + 1 = omega arith in (2, lit< tt, ap (λ t. at t (y + 1)) (sym p) ∙ ap (at X) (sym r))
          ]
      | inr p ↦
          let s : X ≡ x + 1 = omega arith in
          elim (cases_eq Y y) [
            | inl q ↦ (1, lit< tt, ap (λ t. at t y) (sym s) ∙ ap (at X) (sym q))
            | inr q ↦ let r : Y ≡ y + 1 = omega arith in (3, lit< tt, ap (λ t. at t (y + 1)) (sym s) ∙ ap (at X) (sym r))
          ]
    ]

-- a point of the list is the point of a corner
pub record AtCorner (k i : ℕ) (p : Point) : Type 0 where
  pub X : ℕ
  pub Y : ℕ
  pub corner : IsCorner (x_of k i) (y_of k i) X Y
  pub is : corner_point (2 ^ k) (face_of k i) X Y ≡ p

pub at_corner : (k i : ℕ) (p : Point) → Contains (corner_points k i) p → AtCorner k i p
unfolding corner_points
at_corner k i p (zero, _, e) =
    record { X = x_of k i; Y = y_of k i; corner = record { from_x = omega arith; to_x = omega arith; from_y = omega arith; to_y = omega arith }; is = e }
at_corner k i p (suc zero, _, e) =
    record { X = x_of k i + 1; Y = y_of k i; corner = record { from_x = omega arith; to_x = omega arith; from_y = omega arith; to_y = omega arith }; is = e }
at_corner k i p (suc (suc zero), _, e) =
    record { X = x_of k i; Y = y_of k i + 1; corner = record { from_x = omega arith; to_x = omega arith; from_y = omega arith; to_y = omega arith }; is = e }
at_corner k i p (suc (suc (suc zero)), _, e) =
    record { X = x_of k i + 1; Y = y_of k i + 1; corner = record { from_x = omega arith; to_x = omega arith; from_y = omega arith; to_y = omega arith }; is = e }
at_corner k i p (suc (suc (suc (suc m))), h, _) = absurd (omega arith)

pub shared_from_Touches : (k i j : ℕ) → Touches k i j → SharesCorner k i j
shared_from_Touches k i j t =
    let a = at_corner k i t.point t.in_first in
    let b = at_corner k j t.point t.in_second in
    let e = a.is ∙ sym b.is in
    record {
      X = a.X;
      Y = a.Y;
      Z = b.X;
      W = b.Y;
      in_first = a.corner;
      in_second = b.corner;
      point = record { row = ap (λ p. p.row) e; column = ap (λ p. p.column) e };
    }

pub same_point : (p q : Point) → p.row ≡ q.row → p.column ≡ q.column → p ≡ q
same_point p q a b =
    let of : ℕ → ℕ → Point = λ r c. record { row = r; column = c } in
    ap (λ t. of t p.column) a ∙ ap (of q.row) b

pub Touches-from_shared : (k i j : ℕ) → i < 12 * 4 ^ k → j < 12 * 4 ^ k → (i ≡ j → ⊥) → SharesCorner k i j → Touches k i j
Touches-from_shared k i j ib jb distinct s =
    let e = same_point (corner_point (2 ^ k) (face_of k i) s.X s.Y) (corner_point (2 ^ k) (face_of k j) s.Z s.W) s.point.row s.point.column in
    record {
      first = ib;
      second = jb;
      distinct = distinct;
      point = corner_point (2 ^ k) (face_of k i) s.X s.Y;
      in_first = corner_in k i s.X s.Y s.in_first;
      in_second = subst (λ p. Contains (corner_points k j) p) (sym e) (corner_in k j s.Z s.W s.in_second);
    }

pub same_point_reflexive : (p : Point) → is_same_point p p ≡ true
same_point_reflexive p = and_from _ _ (eq-eqb p.row p.row refl) (eq-eqb p.column p.column refl)

pub same_from_test : (p q : Point) → is_same_point p q ≡ true → p ≡ q
same_from_test p q h =
    let t = and_parts _ _ h in
    same_point p q (eqb-true p.row q.row t.0) (eqb-true p.column q.column t.1)

pub same_point_in_list : (p : Point) (ps : List Point) → Contains ps p → list_any (is_same_point p) ps ≡ true
same_point_in_list p ps (m, h, e) = list_any_at (is_same_point p) ps m p h (ap (is_same_point p) e ∙ same_point_reflexive p)

-- The test returns whether two cells of one order touch.
pub is_touching-from : (k i j : ℕ) → Touches k i j → is_touching k i j ≡ true
unfolding is_touching
is_touching-from k i j t =
    and_from _ _ (not_from_false _ (ne_eqb i j t.distinct))
    (list_any_at (λ p. list_any (is_same_point p) (corner_points k j)) (corner_points k i) t.in_first.0 t.point t.in_first.1
    (ap (λ q. list_any (is_same_point q) (corner_points k j)) t.in_first.2 ∙ same_point_in_list t.point (corner_points k j) t.in_second))

pub Touches-from_test : (k i j : ℕ) → i < 12 * 4 ^ k → j < 12 * 4 ^ k → is_touching k i j ≡ true → Touches k i j
unfolding is_touching
Touches-from_test k i j ib jb h =
    let t = and_parts _ _ h in
    let a = Any-from_list_any (λ p. list_any (is_same_point p) (corner_points k j)) (corner_points k i) t.1 in
    record {
      first = ib;
      second = jb;
      distinct = λ e. false≢true (sym (not_from_true _ (eq-eqb i j e)) ∙ t.0);
      point = a.1;
      in_first = (a.0, a.2, a.3);
      in_second = Contains-from_any (λ x y. same_from_test x y) a.1 (corner_points k j) a.4;
    }
