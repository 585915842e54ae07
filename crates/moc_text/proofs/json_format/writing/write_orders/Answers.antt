use Rattle.moc_ranges.specs.Cells.{cells_of}
use Rattle.moc_text.specs.Private.JsonWriting.{orders_by_name}
use Rattle.moc_text.proofs.JsonRuns.{orders_more}
use Rattle.moc_text.proofs.json_format.writing.write_orders.Goals as goal

pub loop-depth-preserved : goal.loop-depth-preserved
loop-depth-preserved c =
    orders_more (cells_of c.args.output.set.now) c.args.output.empty_order c.loop-depth.depth-index orders_by_name c.loop-depth.has_previous _ c.loop-depth.text c.write_order.new.text _ c.loop-depth-test.true c.in_ok-has_previous.ensures c.loop-depth.invariant
