use Rattle.std.proofs.Common.{◌≡◌, ◌^◌, ap, ◌∙◌, arith, rules}
use Rattle.moc_sphere.specs.Rings.{row_at}
use Rattle.moc_sphere.proofs.RingOrder.{row_bounds}
use Rattle.moc_sphere.proofs.cell.Cell.row_column.Goals as goal

pub returns-clause-row_in_range : goal.returns-clause-row_in_range
returns-clause-row_in_range c =
    let n = 2 ^ c.args.self.order in
    let face = c.face_xy-face.result.0 in
    let x = c.face_xy-face.result.1 in
    let y = c.face_xy-face.result.2 in
    let xy = c.face_xy-face.ensures in
    let order : c.self.inside.order ≡ c.args.self.order = search rules in
    let side = c.nside-side.ensures.value ∙ ap (λ k. 2 ^ k) order in
    let is : c.row.result ≡ row_at n face x y =
    c.row.ensures ∙ (λ i. row_at (side i) face (c.from-x.ensures i) (c.from-y.ensures i)) in
    let bounds = row_bounds n face x y xy.face_in_range xy.x_in_range xy.y_in_range in
    (omega (arith, bounds.0), omega (arith, bounds.1))
