-- At a vertex of a base pixel, the cell beside is the cell beyond the vertex.
use Rattle.std.proofs.Common.{◌≡◌, ℕ, ◌+◌, ◌-◌, MatchOption, arith, inl, inr}
use Rattle.std.specs.Prelude.{Option, Some, None}
use Rattle.moc_sphere.specs.declared.sides.FaceXy.{FaceXy}
use Rattle.moc_sphere.specs.Private.Sides.{IsBeside, IsBeyondNorth, IsBeyondSouth}

pub beside_south : (n f s t : ℕ) (o : Option FaceXy) → s ≡ 0 → t ≡ 0
    → MatchOption o ((g z w : ℕ) → IsBeyondSouth (n - 1) f g z w → ⊥) (λ to. IsBeyondSouth (n - 1) f to.face to.x to.y)
    → MatchOption o ((g z w : ℕ) → IsBeside n f s t g z w → ⊥) (λ to. IsBeside n f s t to.face to.x to.y)
beside_south n f s t None a b h = λ g z w m. none g z w (h g z w) m
  where
    none : (g z w : ℕ) → (IsBeyondSouth (n - 1) f g z w → ⊥) → IsBeside n f s t g z w → ⊥
    none g z w h m = grind arith
beside_south n f s t (Some p) a b h = inr (inr (inr (inr (inr (inr (inl (a, b, h)))))))

pub beside_north : (n f s t : ℕ) (o : Option FaceXy) → s ≡ n + 1 → t ≡ n + 1
    → MatchOption o ((g z w : ℕ) → IsBeyondNorth (n - 1) f g z w → ⊥) (λ to. IsBeyondNorth (n - 1) f to.face to.x to.y)
    → MatchOption o ((g z w : ℕ) → IsBeside n f s t g z w → ⊥) (λ to. IsBeside n f s t to.face to.x to.y)
beside_north n f s t None a b h = λ g z w m. none g z w (h g z w) m
  where
    none : (g z w : ℕ) → (IsBeyondNorth (n - 1) f g z w → ⊥) → IsBeside n f s t g z w → ⊥
    none g z w h m = grind arith
beside_north n f s t (Some p) a b h = inr (inr (inr (inr (inr (inl (a, b, h))))))
