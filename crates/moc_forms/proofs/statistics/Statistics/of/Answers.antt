use Rattle.std.proofs.Common.{◌∙◌, refl}
use Rattle.moc_forms.proofs.statistics.Statistics.of.Goals as goal

pub returns : goal.returns
returns c = record {
  moc_order_is = refl;
  pixels_are = c.count.ensures.size;
  ranges = c.range_count.ensures.0;
  list_is = c.range_count.ensures.1;
  ranges_are = c.range_count.ensures.2;
  cells_are = c.total.ensures ∙ c.cell_count_by_order-orders.ensures.total;
  orders_are = c.cell_count_by_order-orders.ensures.counts;
}
