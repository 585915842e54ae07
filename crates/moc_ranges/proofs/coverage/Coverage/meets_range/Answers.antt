use Rattle.std.proofs.Common.{sym}
use Rattle.moc_ranges.proofs.Looking.{meets_next, meets_none_left}
use Rattle.moc_ranges.proofs.coverage.Coverage.meets_range.Goals as goal

pub returns-in-Some : goal.returns-in-Some
returns-in-Some c = sym (meets_next c.args.self.now c.args.from c.args.to _ c.in-Some.ensures c.requires.ascending)

pub returns-in-None : goal.returns-in-None
returns-in-None c = sym (meets_none_left c.args.self.now c.args.from c.args.to c.in-None.ensures)
