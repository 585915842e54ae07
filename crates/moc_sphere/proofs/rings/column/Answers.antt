use Rattle.std.proofs.Common.{◌≡◌, ◌+◌, ◌*◌, ◌-◌, ◌≤◌, ap, sym, ◌∙◌, arith}
use Rattle.std.proofs.Math.Nat.{mul-le-mul_right}
use Rattle.moc_sphere.specs.Rings.{column_factor}
use Rattle.moc_sphere.proofs.Belt.{column_factor_is}
use Rattle.moc_sphere.proofs.Zones.{column_plain}
use Rattle.moc_sphere.proofs.rings.column.Goals as goal
use Rattle.moc_sphere.proofs.rings.column.Goals.{then-face-eq1, else-face-eq1}

pub returns-else-east-y : goal.returns-else-east-y
returns-else-east-y c =
    let n = c.args.n in
    let f = c.args.face in
    let table = column_factor_is f c.requires.face in
    let is : 2 * c.from.result + c.if-face-eq1.middle ≡ column_factor f =
    elim c.if-face-eq1.branch [
      | then-face-eq1 w ↦ omega (arith, table, c.from.ensures, w.middle-is, w.if-face-eq1.true)
      | else-face-eq1 w ↦ omega (arith, table, c.from.ensures, w.middle-is, w.if-face-eq1.false, c.requires.face)
    ] in
    let bounded : column_factor f ≤ 7 = omega (arith, table) in
    let bound = mul-le-mul_right n bounded in
    let east = ap (λ m. m * n) is in
    ap (λ m. m * n + c.args.x - c.args.y) is
    ∙ sym (column_plain n (column_factor f) c.args.x c.args.y (column_factor f * n + c.args.x - c.args.y)
    (omega (arith, east, c.if-east-y.false)) (omega (arith, bound, c.requires.x)))
