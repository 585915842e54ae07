-- The neighbour of a cell in a direction is the cell that a step leads to.
use Rattle.std.proofs.Common.{◌≡◌, ℕ, zero, suc, ◌+◌, ◌/◌, ◌%◌, ◌^◌, ◌*◌, ◌<◌, Bool, true, false, ◌&&◌, ◌||◌, List, [], ◌∷◌, Contains, refl, sym, ap, subst, ◌∙◌, arith}
use Rattle.std.specs.Prelude.{if◌then◌else◌, Option, None, Some, MatchOption, IfSome}
use Rattle.std.specs.List.{list_any}
use Rattle.std.proofs.lemmas.Bool.{and_from, and_parts, le-leb, leb-true, ne_eqb, not_from_false}
use Rattle.std.proofs.lemmas.Map.Views.{Contains-from_any}
use Rattle.moc_sphere.specs.CellNumber.{CellNumber, cell_number}
use Rattle.moc_sphere.specs.Faces.{face_of, x_of, y_of}
use Rattle.moc_sphere.specs.Touching.{Point, corner_point, corner_points, corners_of, corners_shared, is_same_point, is_touching, IsNeighbour, Touches}
use Rattle.moc_sphere.specs.Private.Sides.{corners_of_step, goes_down, goes_up, IsAtStep, IsBeside}
use Rattle.moc_sphere.specs.declared.direction.Direction.{Direction}
use Rattle.moc_sphere.proofs.Shared.{IsCorner, at_corner, corner_in, same_point_in_list, same_from_test, same_point, Touches-from_test}
use Rattle.moc_sphere.proofs.Points.{IsSameCorner-from_same_point}
use Rattle.moc_sphere.proofs.Names.{same_point-from_Meets}
use Rattle.moc_sphere.proofs.Cells.{Adjoins, adjoins_from_beside, corner_of_beside}
use Rattle.moc_sphere.proofs.FaceBounds.{face_of-below, x_of-below, y_of-below, side_positive}
use Rattle.moc_sphere.proofs.Touching.{step_from_Touches, Touches-from_step}
use Rattle.moc_sphere.proofs.Search.{cell_at_step_is_unique}
use Rattle.moc_sphere.proofs.CellFacts.{cell_is}

same_test : (b t : Bool) → (b ≡ true → t ≡ true) → (t ≡ true → b ≡ true) → b ≡ t
same_test true t f g = sym (f refl)
same_test false true f g = g refl
same_test false false f g = refl

-- the step that goes towards the given corners
abbrev pub across_of : List Bool → ℕ
across_of (s ∷ e ∷ w ∷ n ∷ []) = (if s || w then 0 else 1) + (if e || n then 1 else 0)
across_of _ = 0

abbrev pub up_of : List Bool → ℕ
up_of (s ∷ e ∷ w ∷ n ∷ []) = (if s || e then 0 else 1) + (if w || n then 1 else 0)
up_of _ = 0

step_back : (a b : ℕ) → a < 3 → b < 3 → (across_of (corners_of_step a b) ≡ a) × (up_of (corners_of_step a b) ≡ b)
step_back zero zero al bl = (refl, refl)
step_back zero (suc zero) al bl = (refl, refl)
step_back zero (suc (suc zero)) al bl = (refl, refl)
step_back zero (suc (suc (suc b))) al bl = absurd (omega arith)
step_back (suc zero) zero al bl = (refl, refl)
step_back (suc zero) (suc zero) al bl = (refl, refl)
step_back (suc zero) (suc (suc zero)) al bl = (refl, refl)
step_back (suc zero) (suc (suc (suc b))) al bl = absurd (omega arith)
step_back (suc (suc zero)) zero al bl = (refl, refl)
step_back (suc (suc zero)) (suc zero) al bl = (refl, refl)
step_back (suc (suc zero)) (suc (suc zero)) al bl = (refl, refl)
step_back (suc (suc zero)) (suc (suc (suc b))) al bl = absurd (omega arith)
step_back (suc (suc (suc a))) b al bl = absurd (omega arith)

step_across : (a b d e : ℕ) → across_of (corners_of_step a b) ≡ a → across_of (corners_of_step d e) ≡ d → corners_of_step a b ≡ corners_of_step d e → a ≡ d
step_across a b d e p q same = subst (λ n. n ≡ d) p (subst (λ n. across_of (corners_of_step a b) ≡ n) q (ap across_of same))

step_up : (a b d e : ℕ) → up_of (corners_of_step a b) ≡ b → up_of (corners_of_step d e) ≡ e → corners_of_step a b ≡ corners_of_step d e → b ≡ e
step_up a b d e p q same = subst (λ n. n ≡ e) p (subst (λ n. up_of (corners_of_step a b) ≡ n) q (ap up_of same))

-- steps that go towards the same corners are equal
same_step : (s t : ℕ) → s < 9 → t < 9 → corners_of_step (s / 3) (s % 3) ≡ corners_of_step (t / 3) (t % 3) → s ≡ t
same_step s t sb tb e =
    let p = step_back (s / 3) (s % 3) (omega arith) (omega arith) in
    let q = step_back (t / 3) (t % 3) (omega arith) (omega arith) in
    let a = step_across (s / 3) (s % 3) (t / 3) (t % 3) p.0 q.0 e in
    let b = step_up (s / 3) (s % 3) (t / 3) (t % 3) p.1 q.1 e in
    omega arith

-- ---- the corners that a cell shares with the cell at a step

module _ (k i j a b : ℕ) (al : a < 3) (bl : b < 3) (ib : i < 12 * 4 ^ k) (jb : j < 12 * 4 ^ k)
    (at : IsBeside (2 ^ k) (face_of k i) (x_of k i + a) (y_of k i + b) (face_of k j) (x_of k j) (y_of k j)) where
  abbrev corner : ℕ → ℕ → Point
  corner X Y = corner_point (2 ^ k) (face_of k i) X Y

  abbrev has : ℕ → ℕ → Bool
  has X Y = list_any (is_same_point (corner X Y)) (corner_points k j)

  towards : (X Y : ℕ) → IsCorner (x_of k i) (y_of k i) X Y → has X Y ≡ true → Adjoins X (x_of k i + a) × Adjoins Y (y_of k i + b)
  towards X Y c h =
      let xn = x_of-below k i in
      let yn = y_of-below k i in
      let zn = x_of-below k j in
      let wn = y_of-below k j in
      let xc = c.to_x in
      let yc = c.to_y in
      let v = at_corner k j (corner X Y) (Contains-from_any (λ p q. same_from_test p q) (corner X Y) (corner_points k j) h) in
      let zc = v.corner.to_x in
      let wc = v.corner.to_y in
      let m = IsSameCorner-from_same_point (2 ^ k) (face_of k i) (face_of k j) X Y v.X v.Y (side_positive k) (face_of-below k i ib) (face_of-below k j jb)
      (omega arith) (omega arith) (omega arith) (omega arith) (record { row = ap (λ p. p.row) (sym v.is); column = ap (λ p. p.column) (sym v.is) }) in
      adjoins_from_beside (2 ^ k) (face_of k i) X Y (x_of k i + a) (y_of k i + b) (face_of k j) (x_of k j) (y_of k j) v.X v.Y (side_positive k) (face_of-below k i ib)
      (omega arith) (omega arith) zn wn v.corner m at

  there : (X Y : ℕ) → IsCorner (x_of k i) (y_of k i) X Y → Adjoins X (x_of k i + a) → Adjoins Y (y_of k i + b) → has X Y ≡ true
  there X Y c p q =
      let xn = x_of-below k i in
      let yn = y_of-below k i in
      let xc = c.to_x in
      let yc = c.to_y in
      let v = corner_of_beside (2 ^ k) (face_of k i) X Y (x_of k i + a) (y_of k i + b) (face_of k j) (x_of k j) (y_of k j) (side_positive k) (omega arith) (omega arith) p q at in
      let one = same_point-from_Meets (2 ^ k) (face_of k i) (face_of k j) X Y v.Z v.W (side_positive k) (face_of-below k i ib) (omega arith) (omega arith) v.meets in
      let e = same_point (corner X Y) (corner_point (2 ^ k) (face_of k j) v.Z v.W) one.row one.column in
      same_point_in_list (corner X Y) (corner_points k j) (subst (λ p. Contains (corner_points k j) p) (sym e) (corner_in k j v.Z v.W v.corner))

  south : has (x_of k i) (y_of k i) ≡ (goes_down a && goes_down b)
  south =
      let c : IsCorner (x_of k i) (y_of k i) (x_of k i) (y_of k i) = record { from_x = omega arith; to_x = omega arith; from_y = omega arith; to_y = omega arith } in
      same_test _ _
      (λ h. let t : Adjoins (x_of k i) (x_of k i + a) × Adjoins (y_of k i) (y_of k i + b) = towards (x_of k i) (y_of k i) c h in and_from _ _ (le-leb a 1 (omega arith)) (le-leb b 1 (omega arith)))
      (λ h. let t = and_parts (goes_down a) (goes_down b) h in there (x_of k i) (y_of k i) c (omega arith, omega (arith, leb-true a 1 t.0)) (omega arith, omega (arith, leb-true b 1 t.1)))

  east : has (x_of k i + 1) (y_of k i) ≡ (goes_up a && goes_down b)
  east =
      let c : IsCorner (x_of k i) (y_of k i) (x_of k i + 1) (y_of k i) = record { from_x = omega arith; to_x = omega arith; from_y = omega arith; to_y = omega arith } in
      same_test _ _
      (λ h. let t : Adjoins (x_of k i + 1) (x_of k i + a) × Adjoins (y_of k i) (y_of k i + b) = towards (x_of k i + 1) (y_of k i) c h in and_from _ _ (le-leb 1 a (omega arith)) (le-leb b 1 (omega arith)))
      (λ h. let t = and_parts (goes_up a) (goes_down b) h in there (x_of k i + 1) (y_of k i) c (omega (arith, leb-true 1 a t.0), omega arith) (omega arith, omega (arith, leb-true b 1 t.1)))

  west : has (x_of k i) (y_of k i + 1) ≡ (goes_down a && goes_up b)
  west =
      let c : IsCorner (x_of k i) (y_of k i) (x_of k i) (y_of k i + 1) = record { from_x = omega arith; to_x = omega arith; from_y = omega arith; to_y = omega arith } in
      same_test _ _
      (λ h. let t : Adjoins (x_of k i) (x_of k i + a) × Adjoins (y_of k i + 1) (y_of k i + b) = towards (x_of k i) (y_of k i + 1) c h in and_from _ _ (le-leb a 1 (omega arith)) (le-leb 1 b (omega arith)))
      (λ h. let t = and_parts (goes_down a) (goes_up b) h in there (x_of k i) (y_of k i + 1) c (omega arith, omega (arith, leb-true a 1 t.0)) (omega (arith, leb-true 1 b t.1), omega arith))

  north : has (x_of k i + 1) (y_of k i + 1) ≡ (goes_up a && goes_up b)
  north =
      let c : IsCorner (x_of k i) (y_of k i) (x_of k i + 1) (y_of k i + 1) = record { from_x = omega arith; to_x = omega arith; from_y = omega arith; to_y = omega arith } in
      same_test _ _
      (λ h. let t : Adjoins (x_of k i + 1) (x_of k i + a) × Adjoins (y_of k i + 1) (y_of k i + b) = towards (x_of k i + 1) (y_of k i + 1) c h in and_from _ _ (le-leb 1 a (omega arith)) (le-leb 1 b (omega arith)))
      (λ h. let t = and_parts (goes_up a) (goes_up b) h in there (x_of k i + 1) (y_of k i + 1) c (omega (arith, leb-true 1 a t.0), omega arith) (omega (arith, leb-true 1 b t.1), omega arith))

  pub shared_at_step : corners_shared k i j ≡ corners_of_step a b
  unfolding corners_shared corner_points
  shared_at_step = λ t. south t ∷ east t ∷ west t ∷ north t ∷ []

-- ---- the step of a direction

abbrev any_of : List Bool → Bool
any_of bs = list_any (λ b. b) bs

some_corner : (a b : ℕ) → a < 3 → b < 3 → any_of (corners_of_step a b) ≡ true
some_corner zero zero al bl = refl
some_corner zero (suc zero) al bl = refl
some_corner zero (suc (suc zero)) al bl = refl
some_corner zero (suc (suc (suc b))) al bl = absurd (omega arith)
some_corner (suc zero) zero al bl = refl
some_corner (suc zero) (suc zero) al bl = refl
some_corner (suc zero) (suc (suc zero)) al bl = refl
some_corner (suc zero) (suc (suc (suc b))) al bl = absurd (omega arith)
some_corner (suc (suc zero)) zero al bl = refl
some_corner (suc (suc zero)) (suc zero) al bl = refl
some_corner (suc (suc zero)) (suc (suc zero)) al bl = refl
some_corner (suc (suc zero)) (suc (suc (suc b))) al bl = absurd (omega arith)
some_corner (suc (suc (suc a))) b al bl = absurd (omega arith)

-- a cell shares all corners with itself
corners_of_cell_itself : (k i : ℕ) → corners_shared k i i ≡ corners_of_step 1 1
unfolding corners_shared corner_points
corners_of_cell_itself k i =
    let x = x_of k i in
    let y = y_of k i in
    let own : (X Y : ℕ) → IsCorner x y X Y → list_any (is_same_point (corner_point (2 ^ k) (face_of k i) X Y)) (corner_points k i) ≡ true =
    λ X Y c. same_point_in_list (corner_point (2 ^ k) (face_of k i) X Y) (corner_points k i) (corner_in k i X Y c) in
    let s = own x y (record { from_x = omega arith; to_x = omega arith; from_y = omega arith; to_y = omega arith }) in
    let e = own (x + 1) y (record { from_x = omega arith; to_x = omega arith; from_y = omega arith; to_y = omega arith }) in
    let w = own x (y + 1) (record { from_x = omega arith; to_x = omega arith; from_y = omega arith; to_y = omega arith }) in
    let n = own (x + 1) (y + 1) (record { from_x = omega arith; to_x = omega arith; from_y = omega arith; to_y = omega arith }) in
    λ t. s t ∷ e t ∷ w t ∷ n t ∷ []

touching_test : (k i j : ℕ) → (i ≡ j → ⊥) → any_of (corners_shared k i j) ≡ true → is_touching k i j ≡ true
unfolding is_touching corners_shared corner_points
touching_test k i j distinct h = and_from _ _ (not_from_false _ (ne_eqb i j distinct)) h

pub neighbour_at_step : (k i : ℕ) (d : Direction) (s j : ℕ) → i < 12 * 4 ^ k → s < 9 → corners_of_step (s / 3) (s % 3) ≡ corners_of d → IsAtStep k i s j → IsNeighbour k d i j
neighbour_at_step k i d s j ib sb e (jb, h) =
    (jb, shared_at_step k i j (s / 3) (s % 3) (omega arith) (omega arith) ib jb h ∙ e)

pub step_of_neighbour : (k i : ℕ) (d : Direction) (s j : ℕ) → i < 12 * 4 ^ k → s < 9 → (s ≡ 4 → ⊥) → corners_of_step (s / 3) (s % 3) ≡ corners_of d → IsNeighbour k d i j → IsAtStep k i s j
step_of_neighbour k i d s j ib sb off e (jb, shared) =
    let in_first : corners_shared k i j ≡ corners_of_step (s / 3) (s % 3) = shared ∙ sym e in
    let distinct : i ≡ j → ⊥ =
    λ same.
    let own : corners_shared k i j ≡ corners_of_step 1 1 = subst (λ l. corners_shared k i l ≡ corners_of_step 1 1) same (corners_of_cell_itself k i) in
    off (same_step s 4 sb (omega arith) (sym in_first ∙ own)) in
    let t = Touches-from_test k i j ib jb (touching_test k i j distinct (ap any_of in_first ∙ some_corner (s / 3) (s % 3) (omega arith) (omega arith))) in
    of_step (step_from_Touches k i j t) in_first
  where
    of_step : ((u : ℕ) × (u < 9) × (u ≡ 4 → ⊥) × IsAtStep k i u j) → corners_shared k i j ≡ corners_of_step (s / 3) (s % 3) → IsAtStep k i s j
    of_step (u, ub, _, at) in_first =
        let there = shared_at_step k i j (u / 3) (u % 3) (omega arith) (omega arith) ib jb at.1 in
        subst (λ v. IsAtStep k i v j) (same_step u s ub sb (sym there ∙ in_first)) at

-- the result of a search at a step: the cell there, or `None` if no cell is there
abbrev pub IsFoundAt : ℕ → ℕ → ℕ → Option CellNumber → Type 0
IsFoundAt k i s r = MatchOption r ((j : ℕ) → ¬ IsAtStep k i s j) (λ c. (c.order ≡ k) × IsAtStep k i s c.index)

-- the result is the neighbour in the direction of the step, if there is one
module _ (k i : ℕ) (d : Direction) (s : ℕ) (ib : i < 12 * 4 ^ k) (sb : s < 9) (off : s ≡ 4 → ⊥) (e : corners_of_step (s / 3) (s % 3) ≡ corners_of d) where
  pub one_found : (r : Option CellNumber) → IsFoundAt k i s r → IfSome r (λ c. (c.order ≡ k) × IsNeighbour k d i c.index)
  one_found None h = tt
  one_found (Some c) (o, h) = (o, neighbour_at_step k i d s c.index ib sb e h)

  pub one_only : (r : Option CellNumber) → IsFoundAt k i s r → (j : ℕ) → IsNeighbour k d i j → r ≡ Some (cell_number k j)
  one_only None none j h = absurd (none j (step_of_neighbour k i d s j ib sb off e h))
  one_only (Some c) (o, at) j h = ap Some (cell_is c k j o (cell_at_step_is_unique k i s c.index j at (step_of_neighbour k i d s j ib sb off e h)))

  -- the result touches the cell
  pub one_touches : (r : Option CellNumber) → IsFoundAt k i s r → IfSome r (λ c. Touches k i c.index)
  one_touches None h = tt
  one_touches (Some c) (o, at) = Touches-from_step k i s c.index ib sb off at
