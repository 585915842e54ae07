use Rattle.std.proofs.Common.{◌≡◌, ◌++◌, drop, false}
use Rattle.serde_json.specs.Written.{members_text}
use Rattle.moc_ranges.specs.Cells.{cells_of}
use Rattle.moc_text.specs.Private.JsonWriting.{members_in_order, orders_by_name}
use Rattle.moc_text.proofs.json_format.writing.write_orders.Given as goal

-- the text so far and the text of the remaining orders are the whole object
abbrev pub invariant-loop-depth : goal.invariant-loop-depth
invariant-loop-depth l =
    l.text ++ members_text l.has_previous (members_in_order (cells_of l.output.set.now) l.output.empty_order (drop l.depth-index orders_by_name))
    ≡ l.fn.text ++ members_text false (members_in_order (cells_of l.output.set.now) l.output.empty_order orders_by_name)
