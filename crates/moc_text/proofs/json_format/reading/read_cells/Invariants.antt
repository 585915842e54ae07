use Rattle.std.proofs.Common.{◌≡◌, drop}
use Rattle.std.specs.FinSet as set
use Rattle.serde_json.specs.View.{items_view}
use Rattle.moc_text.specs.JsonFormat.{items_pixels, elements_error}
use Rattle.moc_text.proofs.json_format.reading.read_cells.Given as goal

abbrev pub invariant-loop-place : goal.invariant-loop-place
invariant-loop-place l = record {
  fault : elements_error l.order l.name l.place (items_view (drop l.place l.values)) ≡ elements_error l.order l.name 0 (items_view l.values);
  set : set.union l.cells (items_pixels l.order (items_view (drop l.place l.values))) ≡ set.union l.fn.cells (items_pixels l.order (items_view l.values));
}
