use Rattle.moc_ranges.proofs.Gathering.{no_row, spans_numbers}
use Rattle.moc_ranges.proofs.builder.CoverageBuilder.add_cells.Goals as goal

pub returns-then-first-last-clause-added : goal.returns-then-first-last-clause-added
returns-then-first-last-clause-added c = no_row c.args.self.now c.args.order c.args.first c.args.last c.if-first-last.true

pub returns-clause-added : goal.returns-clause-added
returns-clause-added c = rw (← spans_numbers c.args.order c.args.first c.args.last c.cell_size-size.ensures.in_range c.requires, ← c.cell_size-size.ensures.size) c.add_range.ensures.added
