use Rattle.std.proofs.Common.{ap, ◌∙◌, arith}
use Rattle.moc_sphere.specs.CellNumber.{CellNumber}
use Rattle.moc_sphere.specs.Faces.{face_of}
use Rattle.moc_sphere.proofs.RingCount.{face_in_range}
use Rattle.moc_sphere.proofs.CellFacts.{face_code}
use Rattle.moc_sphere.proofs.cell.Cell.base_pixel.Goals as goal

pub overflow_cast-result-2 : goal.overflow_cast-result-2
overflow_cast-result-2 c =
    let k = c.self.inside.order in
    let i = c.self.inside.index in
    omega (arith, face_code k c.get.result i c.get.ensures.value, face_in_range k i c.self.invariant)

pub returns-clause-value : goal.returns-clause-value
returns-clause-value c =
    face_code c.self.inside.order c.get.result c.self.inside.index c.get.ensures.value
    ∙ ap (λ (s : CellNumber). face_of s.order s.index) c.self.view_is

pub returns-clause-in_range : goal.returns-clause-in_range
returns-clause-in_range c =
    let k = c.self.inside.order in
    let i = c.self.inside.index in
    omega (arith, face_code k c.get.result i c.get.ensures.value, face_in_range k i c.self.invariant)
