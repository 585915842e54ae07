use Rattle.std.proofs.Common.{length, ◌-◌, arith}
use Rattle.moc_sphere.proofs.Inserted.{below_from_last}
use Rattle.moc_sphere.proofs.ascending.first_at_least.Goals as goal

pub returns-then-numbers-last-clause-below : goal.returns-then-numbers-last-clause-below
returns-then-numbers-last-clause-below c = λ k l.
    below_from_last c.args.numbers.now c.args.value (length c.args.numbers.now - c.loop-passed.passed - 1) k c.requires
    (omega (arith, c.loop-passed-test.true)) c.if-numbers-last.true l
