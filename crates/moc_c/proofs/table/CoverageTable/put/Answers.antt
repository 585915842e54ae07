use Rattle.std.proofs.Common.{◌≡◌, ◌+◌, rules}
use Rattle.moc_c.proofs.Keys.{empty_after_insert}
use Rattle.moc_c.proofs.table.CoverageTable.put.Goals as goal

pub invariant_of-self-2 : goal.invariant_of-self-2
invariant_of-self-2 c =
    let next : c.in-Some.next ≡ c.self.inside.next + 1 = search rules in
    rw (c.in_ok-insert.ensures.inserted, next) (empty_after_insert c.self.inside.sets c.self.inside.next c.args.set c.self.invariant)
