use Rattle.std.proofs.Common.{◌≡◌, subst}
use Rattle.std.specs.FinSet as set
use Rattle.moc_blocks.specs.RangeList.{NumberSet}
use Rattle.moc_ranges.proofs.Gathering.{span_numbers}
use Rattle.moc_ranges.proofs.coverage.Coverage.count_cell.Goals as goal

pub returns : goal.returns
returns c =
    subst (λ (s : NumberSet). c.count_range.result ≡ set.len (set.intersection c.args.self.now s))
    (span_numbers c.args.cell.order c.args.cell.index c.span-from.result.0 c.span-from.result.1 c.span-from.ensures.pixels c.span-from.ensures.in_range) c.count_range.ensures
