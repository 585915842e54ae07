use Rattle.std.specs.Fmt.{HasWritten, IsPlainFormatter}
use Rattle.moc_forms.specs.Describing.{order_lines_below}
use Rattle.moc_forms.proofs.statistics.write_orders.Given as goal

abbrev pub invariant-loop-order : goal.invariant-loop-order
invariant-loop-order g l =
    IsPlainFormatter l.initial.f
    → HasWritten g.W.Write.write_str_gives l.initial.f (order_lines_below l.orders l.order) l.f
