use Rattle.std.proofs.Common.{◌≡◌, ◌≤◌, length, rules, arith}
use Rattle.moc_sphere.proofs.Inserted.{from_inserted, to_inserted}
use Rattle.std.proofs.lemmas.Grind.{common_steps}
use Rattle.moc_sphere.proofs.ascending.insert_sorted.Goals as goal

pub returns-clause-has : goal.returns-clause-has
returns-clause-has c =
    let e : c.insert.new.self.items ≡ _ = c.in-Ok.ensures.ok in
    let within : c.first_at_least-at.result ≤ length c.args.list.now.items = search rules in
    rw e (λ j. (from_inserted c.args.list.now.items _ c.args.value j within, to_inserted c.args.list.now.items _ c.args.value j within))

pub returns-then-at-len-clause-ascending : goal.returns-then-at-len-clause-ascending
returns-then-at-len-clause-ascending c = grind (arith, common_steps)

pub returns-then-at-len-clause-has : goal.returns-then-at-len-clause-has
returns-then-at-len-clause-has c = grind (arith, common_steps)

pub returns-then-at-len-clause-len : goal.returns-then-at-len-clause-len
returns-then-at-len-clause-len c = grind (arith, common_steps)
