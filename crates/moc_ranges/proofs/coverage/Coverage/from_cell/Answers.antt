use Rattle.std.proofs.Common.{◌∙◌, ap}
use Rattle.moc_blocks.specs.RangeList.{set_of}
use Rattle.moc_ranges.proofs.Spans.{span_view}
use Rattle.moc_ranges.proofs.coverage.Coverage.from_cell.Goals as goal

pub returns : goal.returns
returns c =
    ap set_of c.in_ok-list.ensures
    ∙ span_view c.args.cell.order c.args.cell.index c.span-from.result.0 c.span-from.result.1 c.span-from.ensures.pixels c.span-from.ensures.in_range
