use Rattle.std.proofs.Common.{◌≡◌, subst}
use Rattle.std.specs.Prelude.{OnOk, IfOk}
use Rattle.std.specs.FinSet as set
use Rattle.moc_blocks.specs.RangeList.{NumberSet}
use Rattle.moc_ranges.proofs.Gathering.{span_numbers}
use Rattle.moc_ranges.proofs.coverage.Coverage.insert_cell.Goals as goal

pub returns-clause-set : goal.returns-clause-set
returns-clause-set c =
    subst (λ (s : NumberSet). OnOk c.insert_range.result (c.insert_range.new.self ≡ set.union c.args.self.now s))
    (span_numbers c.args.cell.order c.args.cell.index c.span-from.result.0 c.span-from.result.1 c.span-from.ensures.pixels c.span-from.ensures.in_range) c.insert_range.ensures.set

pub returns-clause-added : goal.returns-clause-added
returns-clause-added c =
    subst (λ (s : NumberSet). IfOk c.insert_range.result (λ n. n ≡ set.len (set.difference s c.args.self.now)))
    (span_numbers c.args.cell.order c.args.cell.index c.span-from.result.0 c.span-from.result.1 c.span-from.ensures.pixels c.span-from.ensures.in_range) c.insert_range.ensures.added
