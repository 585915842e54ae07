use Rattle.std.proofs.Common.{◌≡◌, map, take, drop}
use Rattle.moc_sphere.specs.CellNumber.{uniq_of}
use Rattle.moc_c.proofs.arrays.fill_uniqs.Given as goal

abbrev pub invariant-loop-at : goal.invariant-loop-at
invariant-loop-at l =
    (take l.at l.out ≡ map uniq_of (take l.at l.cells)) × (drop l.at l.out ≡ drop l.at l.fn.out)
