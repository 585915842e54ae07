use Rattle.std.proofs.Common.{◌≡◌, ◌<◌, ℕ, ◌∷◌, take, nat_eq}
use Rattle.std.specs.List.{list_any}
use Rattle.moc_sphere.specs.Faces.{face_of}
use Rattle.std.specs.FinSet as set
use Rattle.moc_parts.proofs.footprint.parts_around.Given as goal

abbrev pub invariant-loop-index : goal.invariant-loop-index
invariant-loop-index l = (k : ℕ) → k < 12 → set.contains l.parts k ≡ list_any (λ index. nat_eq (face_of l.cell.order index) k) (l.cell.index ∷ take l.index-index l.index-items)
