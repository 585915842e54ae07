use Rattle.moc_ranges.proofs.Gathering.{span_numbers}
use Rattle.moc_ranges.proofs.builder.CoverageBuilder.add_cell.Goals as goal

pub returns-clause-added : goal.returns-clause-added
returns-clause-added c = rw (← span_numbers c.args.cell.order c.args.cell.index c.span-from.result.0 c.span-from.result.1 c.span-from.ensures.pixels c.span-from.ensures.in_range) c.add_range.ensures.added
