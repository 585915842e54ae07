-- From corners to cells: two cells share a corner if and only if one is beside the other.
use Rattle.std.proofs.Common.{◌≡◌, ℕ, ◌+◌, ◌-◌, ◌<◌, ◌≤◌, inl, inr, arith, refl, max}
use Rattle.moc_sphere.specs.Private.Sides.{IsSameCorner, IsBeside, IsBeyondNorthEast, IsBeyondSouthWest, IsBeyondNorthWest, IsBeyondSouthEast, IsBeyondNorth, IsBeyondSouth, IsBeyondEast, IsBeyondWest}
use Rattle.moc_sphere.proofs.Shared.{IsCorner}

-- the cell (z, w) is beyond a side, at a position p along it that differs by at most one from the position u
abbrev pub NearAlong : ℕ → ℕ → (ℕ → Type 0) → Type 0
NearAlong n u Beyond = (p : ℕ) × (p < n) × (p ≤ u + 1) × (u ≤ p + 1) × Beyond p

module _ (n f u U g z w Z W : ℕ) (fn : f < 12) (un : u < n) (zn : z < n) (wn : w < n)
    (uU : u ≤ U) (Uu : U ≤ u + 1) (zZ : z ≤ Z) (Zz : Z ≤ z + 1) (wW : w ≤ W) (Ww : W ≤ w + 1) where
  pub along_north_east : IsBeyondNorthEast n f U g Z W → NearAlong n u (λ p. IsBeyondNorthEast (n - 1) f p g z w)
  along_north_east h =
      elim h [
        | inl a ↦ (z, zn, omega arith, omega arith, grind arith)
        | inr a ↦ (w, wn, grind arith, grind arith, grind arith)
      ]

  pub along_south_west : IsBeyondSouthWest n f U g Z W → NearAlong n u (λ p. IsBeyondSouthWest (n - 1) f p g z w)
  along_south_west h =
      elim h [
        | inl a ↦ (w, wn, omega arith, omega arith, grind arith)
        | inr (inl a) ↦ (w, wn, omega arith, omega arith, grind arith)
        | inr (inr a) ↦ (z, zn, omega arith, omega arith, grind arith)
      ]

  pub along_north_west : IsBeyondNorthWest n f U g Z W → NearAlong n u (λ p. IsBeyondNorthWest (n - 1) f p g z w)
  along_north_west h =
      elim h [
        | inl a ↦ (w, wn, omega arith, omega arith, grind arith)
        | inr a ↦ (z, zn, grind arith, grind arith, grind arith)
      ]

  pub along_south_east : IsBeyondSouthEast n f U g Z W → NearAlong n u (λ p. IsBeyondSouthEast (n - 1) f p g z w)
  along_south_east h =
      elim h [
        | inl a ↦ (z, zn, omega arith, omega arith, grind arith)
        | inr (inl a) ↦ (z, zn, omega arith, omega arith, grind arith)
        | inr (inr a) ↦ (w, wn, omega arith, omega arith, grind arith)
      ]

-- A step of less than two cells in each coordinate, from the square at (x, y), leads to the cell (z, w) of g.
abbrev pub Reaches : ℕ → ℕ → ℕ → ℕ → ℕ → ℕ → ℕ → Type 0
Reaches n f x y g z w = (a : ℕ) × (b : ℕ) × (a < 3) × (b < 3) × IsBeside n f (x + a) (y + b) g z w

vertex_north : (n f g z w Z W : ℕ) → z < n → w < n → IsCorner z w Z W → IsBeyondNorth n f g Z W → IsBeyondNorth (n - 1) f g z w
vertex_north n f g z w Z W zn wn d h = grind arith

vertex_south : (n f g z w Z W : ℕ) → z < n → w < n → IsCorner z w Z W → IsBeyondSouth n f g Z W → IsBeyondSouth (n - 1) f g z w
vertex_south n f g z w Z W zn wn d h = grind arith

vertex_east : (n f g z w Z W : ℕ) → z < n → w < n → IsCorner z w Z W → IsBeyondEast n f g Z W → IsBeyondEast (n - 1) f g z w
vertex_east n f g z w Z W zn wn d h = grind arith

vertex_west : (n f g z w Z W : ℕ) → z < n → w < n → IsCorner z w Z W → IsBeyondWest n f g Z W → IsBeyondWest (n - 1) f g z w
vertex_west n f g z w Z W zn wn d h = grind arith

reach_north_east : (n f x y g z w : ℕ) → x < n → y < n → x + 1 ≡ n → NearAlong n y (λ p. IsBeyondNorthEast (n - 1) f p g z w) → Reaches n f x y g z w
reach_north_east n f x y g z w xn yn at (p, pn, above, below, h) =
    let e : y + (p + 1 - y) - 1 ≡ p = omega arith in
    (2, p + 1 - y, omega arith, omega arith, inr (inl (omega arith, omega arith, omega arith, rw e h)))

reach_south_west : (n f x y g z w : ℕ) → x < n → y < n → x ≡ 0 → NearAlong n y (λ p. IsBeyondSouthWest (n - 1) f p g z w) → Reaches n f x y g z w
reach_south_west n f x y g z w xn yn at (p, pn, above, below, h) =
    let e : y + (p + 1 - y) - 1 ≡ p = omega arith in
    (0, p + 1 - y, omega arith, omega arith, inr (inr (inl (omega arith, omega arith, omega arith, rw e h))))

reach_north_west : (n f x y g z w : ℕ) → x < n → y < n → y + 1 ≡ n → NearAlong n x (λ p. IsBeyondNorthWest (n - 1) f p g z w) → Reaches n f x y g z w
reach_north_west n f x y g z w xn yn at (p, pn, above, below, h) =
    let e : x + (p + 1 - x) - 1 ≡ p = omega arith in
    (p + 1 - x, 2, omega arith, omega arith, inr (inr (inr (inl (omega arith, omega arith, omega arith, rw e h)))))

reach_south_east : (n f x y g z w : ℕ) → x < n → y < n → y ≡ 0 → NearAlong n x (λ p. IsBeyondSouthEast (n - 1) f p g z w) → Reaches n f x y g z w
reach_south_east n f x y g z w xn yn at (p, pn, above, below, h) =
    let e : x + (p + 1 - x) - 1 ≡ p = omega arith in
    (p + 1 - x, 0, omega arith, omega arith, inr (inr (inr (inr (inl (omega arith, omega arith, omega arith, rw e h))))))

pub Reaches-from_corners : (n f x y X Y g z w Z W : ℕ) → f < 12 → x < n → y < n → z < n → w < n
    → IsCorner x y X Y → IsCorner z w Z W → IsSameCorner n f X Y g Z W → Reaches n f x y g z w
Reaches-from_corners n f x y X Y g z w Z W fn xn yn zn wn c d m =
    elim m [
      | inl h ↦ (z + 1 - x, w + 1 - y, omega arith, omega arith, inl (omega arith, omega arith, omega arith, omega arith, omega arith, omega arith, omega arith))
      | inr (inl h) ↦
          reach_north_east n f x y g z w xn yn (omega arith)
          (along_north_east n f y Y g z w Z W fn yn zn wn c.from_y c.to_y d.from_x d.to_x d.from_y d.to_y h.1)
      | inr (inr (inl h)) ↦
          reach_south_west n f x y g z w xn yn (omega arith)
          (along_south_west n f y Y g z w Z W fn yn zn wn c.from_y c.to_y d.from_x d.to_x d.from_y d.to_y h.1)
      | inr (inr (inr (inl h))) ↦
          reach_north_west n f x y g z w xn yn (omega arith)
          (along_north_west n f x X g z w Z W fn xn zn wn c.from_x c.to_x d.from_x d.to_x d.from_y d.to_y h.1)
      | inr (inr (inr (inr (inl h)))) ↦
          reach_south_east n f x y g z w xn yn (omega arith)
          (along_south_east n f x X g z w Z W fn xn zn wn c.from_x c.to_x d.from_x d.to_x d.from_y d.to_y h.1)
      | inr (inr (inr (inr (inr (inl h))))) ↦
          (2, 2, omega arith, omega arith, inr (inr (inr (inr (inr (inl (omega arith, omega arith, vertex_north n f g z w Z W zn wn d h.2)))))))
      | inr (inr (inr (inr (inr (inr (inl h)))))) ↦
          (0, 0, omega arith, omega arith, inr (inr (inr (inr (inr (inr (inl (omega arith, omega arith, vertex_south n f g z w Z W zn wn d h.2))))))))
      | inr (inr (inr (inr (inr (inr (inr (inl h))))))) ↦
          (2, 0, omega arith, omega arith, inr (inr (inr (inr (inr (inr (inr (inl (omega arith, omega arith, vertex_east n f g z w Z W zn wn d h.2)))))))))
      | inr (inr (inr (inr (inr (inr (inr (inr h))))))) ↦
          (0, 2, omega arith, omega arith, inr (inr (inr (inr (inr (inr (inr (inr (omega arith, omega arith, vertex_west n f g z w Z W zn wn d h.2)))))))))
    ]

-- The corner (X, Y) of base pixel f is a corner of the cell (z, w) of base pixel g.
pub record IsCornerOf (n f X Y g z w : ℕ) : Type 0 where
  pub Z : ℕ
  pub W : ℕ
  pub corner : IsCorner z w Z W
  pub meets : IsSameCorner n f X Y g Z W

corner_of_at : (n f X Y g z w Z W : ℕ) → z ≤ Z → Z ≤ z + 1 → w ≤ W → W ≤ w + 1 → IsSameCorner n f X Y g Z W → IsCornerOf n f X Y g z w
corner_of_at n f X Y g z w Z W a b c d m =
    record { Z = Z; W = W; corner = record { from_x = a; to_x = b; from_y = c; to_y = d }; meets = m }

shares_north_east : (n f U g Z W : ℕ) → IsBeyondNorthEast n f U g Z W → IsSameCorner n f n U g Z W
shares_north_east n f U g Z W h = inr (inl (refl, h))

corner_of_north_east : (n f U g z w p : ℕ) → p < n → p ≤ U → U ≤ p + 1 → IsBeyondNorthEast (n - 1) f p g z w → IsCornerOf n f n U g z w
corner_of_north_east n f U g z w p pn low high h =
    elim h [
      | inl a ↦ corner_of_at n f n U g z w U n (omega arith) (omega arith) (omega arith) (omega arith) (shares_north_east n f U g U n (grind arith))
      | inr (inl a) ↦ corner_of_at n f n U g z w 0 U (omega arith) (omega arith) (omega arith) (omega arith) (shares_north_east n f U g 0 U (grind arith))
      | inr (inr a) ↦ corner_of_at n f n U g z w 0 U (omega arith) (omega arith) (omega arith) (omega arith) (shares_north_east n f U g 0 U (grind arith))
    ]

shares_south_west : (n f U g Z W : ℕ) → IsBeyondSouthWest n f U g Z W → IsSameCorner n f 0 U g Z W
shares_south_west n f U g Z W h = inr (inr (inl (refl, h)))

corner_of_south_west : (n f U g z w p : ℕ) → p < n → p ≤ U → U ≤ p + 1 → IsBeyondSouthWest (n - 1) f p g z w → IsCornerOf n f 0 U g z w
corner_of_south_west n f U g z w p pn low high h =
    elim h [
      | inl a ↦ corner_of_at n f 0 U g z w n U (omega arith) (omega arith) (omega arith) (omega arith) (shares_south_west n f U g n U (grind arith))
      | inr (inl a) ↦ corner_of_at n f 0 U g z w n U (omega arith) (omega arith) (omega arith) (omega arith) (shares_south_west n f U g n U (grind arith))
      | inr (inr a) ↦ corner_of_at n f 0 U g z w U 0 (omega arith) (omega arith) (omega arith) (omega arith) (shares_south_west n f U g U 0 (grind arith))
    ]

shares_north_west : (n f U g Z W : ℕ) → IsBeyondNorthWest n f U g Z W → IsSameCorner n f U n g Z W
shares_north_west n f U g Z W h = inr (inr (inr (inl (refl, h))))

corner_of_north_west : (n f U g z w p : ℕ) → p < n → p ≤ U → U ≤ p + 1 → IsBeyondNorthWest (n - 1) f p g z w → IsCornerOf n f U n g z w
corner_of_north_west n f U g z w p pn low high h =
    elim h [
      | inl a ↦ corner_of_at n f U n g z w n U (omega arith) (omega arith) (omega arith) (omega arith) (shares_north_west n f U g n U (grind arith))
      | inr (inl a) ↦ corner_of_at n f U n g z w U 0 (omega arith) (omega arith) (omega arith) (omega arith) (shares_north_west n f U g U 0 (grind arith))
      | inr (inr a) ↦ corner_of_at n f U n g z w U 0 (omega arith) (omega arith) (omega arith) (omega arith) (shares_north_west n f U g U 0 (grind arith))
    ]

shares_south_east : (n f U g Z W : ℕ) → IsBeyondSouthEast n f U g Z W → IsSameCorner n f U 0 g Z W
shares_south_east n f U g Z W h = inr (inr (inr (inr (inl (refl, h)))))

corner_of_south_east : (n f U g z w p : ℕ) → p < n → p ≤ U → U ≤ p + 1 → IsBeyondSouthEast (n - 1) f p g z w → IsCornerOf n f U 0 g z w
corner_of_south_east n f U g z w p pn low high h =
    elim h [
      | inl a ↦ corner_of_at n f U 0 g z w U n (omega arith) (omega arith) (omega arith) (omega arith) (shares_south_east n f U g U n (grind arith))
      | inr (inl a) ↦ corner_of_at n f U 0 g z w U n (omega arith) (omega arith) (omega arith) (omega arith) (shares_south_east n f U g U n (grind arith))
      | inr (inr a) ↦ corner_of_at n f U 0 g z w 0 U (omega arith) (omega arith) (omega arith) (omega arith) (shares_south_east n f U g 0 U (grind arith))
    ]

shares_north : (n f g Z W : ℕ) → IsBeyondNorth n f g Z W → IsSameCorner n f n n g Z W
shares_north n f g Z W h = inr (inr (inr (inr (inr (inl (refl, refl, h))))))

corner_of_north : (n f g z w : ℕ) → 0 < n → IsBeyondNorth (n - 1) f g z w → IsCornerOf n f n n g z w
corner_of_north n f g z w pos h =
    elim h [
      | inl a ↦ corner_of_at n f n n g z w n n (omega arith) (omega arith) (omega arith) (omega arith) (shares_north n f g n n (grind arith))
      | inr a ↦ corner_of_at n f n n g z w 0 0 (omega arith) (omega arith) (omega arith) (omega arith) (shares_north n f g 0 0 (grind arith))
    ]

shares_south : (n f g Z W : ℕ) → IsBeyondSouth n f g Z W → IsSameCorner n f 0 0 g Z W
shares_south n f g Z W h = inr (inr (inr (inr (inr (inr (inl (refl, refl, h)))))))

corner_of_south : (n f g z w : ℕ) → 0 < n → IsBeyondSouth (n - 1) f g z w → IsCornerOf n f 0 0 g z w
corner_of_south n f g z w pos h =
    elim h [
      | inl a ↦ corner_of_at n f 0 0 g z w n n (omega arith) (omega arith) (omega arith) (omega arith) (shares_south n f g n n (grind arith))
      | inr a ↦ corner_of_at n f 0 0 g z w 0 0 (omega arith) (omega arith) (omega arith) (omega arith) (shares_south n f g 0 0 (grind arith))
    ]

shares_east : (n f g Z W : ℕ) → IsBeyondEast n f g Z W → IsSameCorner n f n 0 g Z W
shares_east n f g Z W h = inr (inr (inr (inr (inr (inr (inr (inl (refl, refl, h))))))))

corner_of_east : (n f g z w : ℕ) → 0 < n → IsBeyondEast (n - 1) f g z w → IsCornerOf n f n 0 g z w
corner_of_east n f g z w pos h =
    corner_of_at n f n 0 g z w 0 n (omega arith) (omega arith) (omega arith) (omega arith) (shares_east n f g 0 n (grind arith))

shares_west : (n f g Z W : ℕ) → IsBeyondWest n f g Z W → IsSameCorner n f 0 n g Z W
shares_west n f g Z W h = inr (inr (inr (inr (inr (inr (inr (inr ((refl, refl, h)))))))))

corner_of_west : (n f g z w : ℕ) → 0 < n → IsBeyondWest (n - 1) f g z w → IsCornerOf n f 0 n g z w
corner_of_west n f g z w pos h =
    corner_of_at n f 0 n g z w n 0 (omega arith) (omega arith) (omega arith) (omega arith) (shares_west n f g n 0 (grind arith))

-- the same corner with equal coordinates
corner_of_equal_coordinates : (n f X Y U V g z w : ℕ) → X ≡ U → Y ≡ V → IsCornerOf n f U V g z w → IsCornerOf n f X Y g z w
corner_of_equal_coordinates n f X Y U V g z w a b c = rw (a, b) c

-- On an axis of a base pixel, a corner at X is a corner of the cell at s - 1.
abbrev pub Adjoins : ℕ → ℕ → Type 0
Adjoins X s = (X ≤ s) × (s ≤ X + 1)

-- A corner of a base pixel that adjoins the cell beside, in coordinates of the base pixel, is a corner of this cell.
pub corner_of_beside : (n f X Y s t g z w : ℕ) → 0 < n → X ≤ n → Y ≤ n → Adjoins X s → Adjoins Y t → IsBeside n f s t g z w → IsCornerOf n f X Y g z w
corner_of_beside n f X Y s t g z w pos xn yn (xs, sx) (yt, ty) b =
    elim b [
      | inl h ↦ corner_of_at n f X Y g z w X Y (omega arith) (omega arith) (omega arith) (omega arith) (inl (omega arith, refl, refl))
      | inr (inl h) ↦ corner_of_equal_coordinates n f X Y n Y g z w (omega arith) refl (corner_of_north_east n f Y g z w (t - 1) (omega arith) (omega arith) (omega arith) h.3)
      | inr (inr (inl h)) ↦ corner_of_equal_coordinates n f X Y 0 Y g z w (omega arith) refl (corner_of_south_west n f Y g z w (t - 1) (omega arith) (omega arith) (omega arith) h.3)
      | inr (inr (inr (inl h))) ↦ corner_of_equal_coordinates n f X Y X n g z w refl (omega arith) (corner_of_north_west n f X g z w (s - 1) (omega arith) (omega arith) (omega arith) h.3)
      | inr (inr (inr (inr (inl h)))) ↦ corner_of_equal_coordinates n f X Y X 0 g z w refl (omega arith) (corner_of_south_east n f X g z w (s - 1) (omega arith) (omega arith) (omega arith) h.3)
      | inr (inr (inr (inr (inr (inl h))))) ↦ corner_of_equal_coordinates n f X Y n n g z w (omega arith) (omega arith) (corner_of_north n f g z w pos h.2)
      | inr (inr (inr (inr (inr (inr (inl h)))))) ↦ corner_of_equal_coordinates n f X Y 0 0 g z w (omega arith) (omega arith) (corner_of_south n f g z w pos h.2)
      | inr (inr (inr (inr (inr (inr (inr (inl h))))))) ↦ corner_of_equal_coordinates n f X Y n 0 g z w (omega arith) (omega arith) (corner_of_east n f g z w pos h.2)
      | inr (inr (inr (inr (inr (inr (inr (inr h))))))) ↦ corner_of_equal_coordinates n f X Y 0 n g z w (omega arith) (omega arith) (corner_of_west n f g z w pos h.2)
    ]

-- If one of two equal corners is a corner of the cell beside, then it adjoins this cell in coordinates of the base
-- pixel.
module _ (n f X Y s t g z w Z W : ℕ) (pos : 0 < n) (fn : f < 12) (xn : X ≤ n) (yn : Y ≤ n) (zn : z < n) (wn : w < n)
    (c : IsCorner z w Z W) (m : IsSameCorner n f X Y g Z W) where
  adjoins_inside : ((1 ≤ s) × (s ≤ n) × (1 ≤ t) × (t ≤ n) × (g ≡ f) × (z + 1 ≡ s) × (w + 1 ≡ t)) → Adjoins X s × Adjoins Y t
  adjoins_inside a = grind arith

  adjoins_north_east : ((s ≡ n + 1) × (1 ≤ t) × (t ≤ n) × IsBeyondNorthEast (n - 1) f (t - 1) g z w) → Adjoins X s × Adjoins Y t
  adjoins_north_east a = grind arith

  adjoins_south_west : ((s ≡ 0) × (1 ≤ t) × (t ≤ n) × IsBeyondSouthWest (n - 1) f (t - 1) g z w) → Adjoins X s × Adjoins Y t
  adjoins_south_west a = grind arith

  adjoins_north_west : ((t ≡ n + 1) × (1 ≤ s) × (s ≤ n) × IsBeyondNorthWest (n - 1) f (s - 1) g z w) → Adjoins X s × Adjoins Y t
  adjoins_north_west a = grind arith

  adjoins_south_east : ((t ≡ 0) × (1 ≤ s) × (s ≤ n) × IsBeyondSouthEast (n - 1) f (s - 1) g z w) → Adjoins X s × Adjoins Y t
  adjoins_south_east a = grind arith

  adjoins_north : ((s ≡ n + 1) × (t ≡ n + 1) × IsBeyondNorth (n - 1) f g z w) → Adjoins X s × Adjoins Y t
  adjoins_north a = grind arith

  adjoins_south : ((s ≡ 0) × (t ≡ 0) × IsBeyondSouth (n - 1) f g z w) → Adjoins X s × Adjoins Y t
  adjoins_south a = grind arith

  adjoins_east : ((s ≡ n + 1) × (t ≡ 0) × IsBeyondEast (n - 1) f g z w) → Adjoins X s × Adjoins Y t
  adjoins_east a = grind arith

  adjoins_west : ((s ≡ 0) × (t ≡ n + 1) × IsBeyondWest (n - 1) f g z w) → Adjoins X s × Adjoins Y t
  adjoins_west a = grind arith

  pub adjoins_from_beside : IsBeside n f s t g z w → Adjoins X s × Adjoins Y t
  adjoins_from_beside a =
      elim a [
        | inl x ↦ adjoins_inside x
        | inr (inl x) ↦ adjoins_north_east x
        | inr (inr (inl x)) ↦ adjoins_south_west x
        | inr (inr (inr (inl x))) ↦ adjoins_north_west x
        | inr (inr (inr (inr (inl x)))) ↦ adjoins_south_east x
        | inr (inr (inr (inr (inr (inl x))))) ↦ adjoins_north x
        | inr (inr (inr (inr (inr (inr (inl x)))))) ↦ adjoins_south x
        | inr (inr (inr (inr (inr (inr (inr (inl x))))))) ↦ adjoins_east x
        | inr (inr (inr (inr (inr (inr (inr (inr x))))))) ↦ adjoins_west x
      ]

-- A corner that two cells share.
pub record Shared (n f x y g z w : ℕ) : Type 0 where
  pub X : ℕ
  pub Y : ℕ
  pub Z : ℕ
  pub W : ℕ
  pub in_first : IsCorner x y X Y
  pub in_second : IsCorner z w Z W
  pub meets : IsSameCorner n f X Y g Z W

pub Shared-from_beside : (n f x y a b g z w : ℕ) → f < 12 → x < n → y < n → a < 3 → b < 3
    → IsBeside n f (x + a) (y + b) g z w → Shared n f x y g z w
Shared-from_beside n f x y a b g z w fn xn yn an bn s =
    let X = max x (x + a - 1) in
    let Y = max y (y + b - 1) in
    let c = corner_of_beside n f X Y (x + a) (y + b) g z w (omega arith) (omega arith) (omega arith) (omega arith, omega arith) (omega arith, omega arith) s in
    record {
      X = X;
      Y = Y;
      Z = c.Z;
      W = c.W;
      in_first = record { from_x = omega arith; to_x = omega arith; from_y = omega arith; to_y = omega arith };
      in_second = c.corner;
      meets = c.meets;
    }

-- A cell beside another, by a step other than step 4, is a different cell.
pub apart_from_beside : (n f x y a b g z w : ℕ) → f < 12 → x < n → y < n → a < 3 → b < 3 → (a ≡ 1 → b ≡ 1 → ⊥)
    → IsBeside n f (x + a) (y + b) g z w → f ≡ g → x ≡ z → y ≡ w → ⊥
apart_from_beside n f x y a b g z w fn xn yn an bn step s e p q = grind arith

pub place_from_beside : (n f s t g z w : ℕ) → 0 < n → f < 12 → s ≤ n + 1 → t ≤ n + 1 → IsBeside n f s t g z w
    → (g < 12) × (z < n) × (w < n)
place_from_beside n f s t g z w pos fn sn tn h = grind arith
