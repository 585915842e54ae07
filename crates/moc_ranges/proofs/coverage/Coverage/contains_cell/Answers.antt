use Rattle.moc_ranges.proofs.Gathering.{span_numbers}
use Rattle.moc_ranges.proofs.coverage.Coverage.contains_cell.Goals as goal

pub returns : goal.returns
returns c = rw (← span_numbers c.args.cell.order c.args.cell.index c.span-from.result.0 c.span-from.result.1 c.span-from.ensures.pixels c.span-from.ensures.in_range) c.covers_range.ensures
