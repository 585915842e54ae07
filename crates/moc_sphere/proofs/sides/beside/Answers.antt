use Rattle.std.proofs.Common.{arith}
use Rattle.moc_sphere.proofs.Vertices.{beside_south, beside_north}
use Rattle.moc_sphere.proofs.sides.beside.Goals as goal

pub returns-then-t-eq0 : goal.returns-then-t-eq0
returns-then-t-eq0 c = beside_south c.args.n c.args.from.face _ _ _ (omega arith) (omega arith) c.beyond_south.ensures

pub returns-then-t-n-2 : goal.returns-then-t-n-2
returns-then-t-n-2 c = beside_north c.args.n c.args.from.face _ _ _ (omega arith) (omega arith) c.beyond_north.ensures
