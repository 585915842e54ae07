use Rattle.std.proofs.Common.{◌≡◌, ℕ, ◌<◌, subst}
use Rattle.moc_sphere.specs.CellNumber.{cell_count}
use Rattle.moc_sphere.specs.Faces.{face_of}
use Rattle.moc_sphere.proofs.Touching.{Touches-sym}
use Rattle.moc_sphere.proofs.Whole.{is_whole}
use Rattle.moc_sphere.proofs.FaceBounds.{index_below}
use Rattle.moc_sphere.proofs.cell.Cell.touching.Goals as goal

-- a cell's index is in the range of its order
in_range : (k i f : ℕ) → f ≡ face_of k i → f < 12 → i < cell_count k
in_range k i f e l = index_below k i (subst (λ f. f < 12) e l)

pub returns-then-y-last-clause-whole : goal.returns-then-y-last-clause-whole
returns-then-y-last-clause-whole c =
    let found = c.touching_in_face.ensures in
    is_whole c.args.self.order c.args.self.index c.touching_in_face.result.items c.spread_xy-x.ensures.in_range found.ascending found.touch

pub returns-then-y-last-clause-back : goal.returns-then-y-last-clause-back
returns-then-y-last-clause-back c = λ j h. Touches-sym _ _ j ((c.touching_in_face.ensures.touch j).0 h)

pub returns-clause-whole : goal.returns-clause-whole
returns-clause-whole c =
    let found = c.touching_across.ensures in
    is_whole c.args.self.order c.args.self.index c.touching_across.result.items (in_range _ _ c.face_xy-face.result.0 c.face_xy-face.ensures.face c.face_xy-face.ensures.face_in_range) found.ascending found.touch

pub returns-clause-back : goal.returns-clause-back
returns-clause-back c = λ j h. Touches-sym _ _ j ((c.touching_across.ensures.touch j).0 h)
