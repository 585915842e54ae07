use Rattle.std.proofs.Common.{sym, arith}
use Rattle.std.proofs.lemmas.Bool.Decides.{nat_tests}
use Rattle.moc_ranges.proofs.Looking.{covers_next, covers_none_left}
use Rattle.moc_ranges.proofs.coverage.Coverage.covers_range.Goals as goal

pub returns-then-start-from : goal.returns-then-start-from
returns-then-start-from c =
    let all = covers_next c.args.self.now c.args.from c.args.to _ c.in-Some.ensures c.requires.ascending in
    let begun = c.if-start-from.true in
    grind (arith, nat_tests)

pub returns-else-start-from : goal.returns-else-start-from
returns-else-start-from c =
    let all = covers_next c.args.self.now c.args.from c.args.to _ c.in-Some.ensures c.requires.ascending in
    let begun = c.if-start-from.false in
    grind (arith, nat_tests)

pub returns-in-None : goal.returns-in-None
returns-in-None c = sym (covers_none_left c.args.self.now c.args.from c.args.to c.in-None.ensures c.requires.ascending)
