use Rattle.std.proofs.Common.{refl, arith}
use Rattle.moc_sphere.proofs.Mirror.{west_is}
use Rattle.moc_sphere.proofs.rings.cells_west.Goals as goal

pub returns-then-east-edge : goal.returns-then-east-edge
returns-then-east-edge c =
    let is = west_is c.args.n c.args.face c.args.x c.args.y c.row-row.result c.min-quarter.result c.from.result c.from-2.result _ _
    c.requires.face c.requires.x c.requires.y c.row-row.ensures c.min-quarter.ensures c.from.ensures c.from-2.ensures refl refl in
    omega (arith, is.round c.if-east-edge.true)

pub returns-else-east-edge : goal.returns-else-east-edge
returns-else-east-edge c =
    let is = west_is c.args.n c.args.face c.args.x c.args.y c.row-row.result c.min-quarter.result c.from.result c.from-2.result _ _
    c.requires.face c.requires.x c.requires.y c.row-row.ensures c.min-quarter.ensures c.from.ensures c.from-2.ensures refl refl in
    omega (arith, is.past c.if-east-edge.false)
