use Rattle.std.proofs.Common.{◌≡◌, subst}
use Rattle.std.specs.Prelude.{OnOk, IfOk}
use Rattle.std.specs.FinSet as set
use Rattle.moc_blocks.specs.RangeList.{NumberSet}
use Rattle.moc_ranges.proofs.Gathering.{span_numbers}
use Rattle.moc_ranges.proofs.coverage.Coverage.remove_cell.Goals as goal

pub returns-clause-set : goal.returns-clause-set
returns-clause-set c =
    subst (λ (s : NumberSet). OnOk c.remove_range.result (c.remove_range.new.self ≡ set.difference c.args.self.now s))
    (span_numbers c.args.cell.order c.args.cell.index c.span-from.result.0 c.span-from.result.1 c.span-from.ensures.pixels c.span-from.ensures.in_range) c.remove_range.ensures.set

pub returns-clause-removed : goal.returns-clause-removed
returns-clause-removed c =
    subst (λ (s : NumberSet). IfOk c.remove_range.result (λ n. n ≡ set.len (set.intersection c.args.self.now s)))
    (span_numbers c.args.cell.order c.args.cell.index c.span-from.result.0 c.span-from.result.1 c.span-from.ensures.pixels c.span-from.ensures.in_range) c.remove_range.ensures.removed
