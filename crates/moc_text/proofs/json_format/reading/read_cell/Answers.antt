use Rattle.std.proofs.Common.{◌≡◌, Some, ap, ◌∙◌, refl, arith, lt-ltb}
use Rattle.std.specs.FinSet as set
use Rattle.serde_json.specs.View.{view}
use Rattle.moc_ranges.specs.Lemmas.{spans-one}
use Rattle.moc_sphere.specs.CellNumber.{cell_count}
use Rattle.moc_text.specs.JsonFormat.{whole_number}
use Rattle.moc_text.proofs.json_format.reading.read_cell.Goals as goal

pub returns : goal.returns
returns c =
    let is : whole_number (view c.args.value.now) ≡ Some c.in-Some.index = cc in
    rw (is, lt-ltb c.in-Some.index (cell_count c.args.order) (omega arith)) (refl, c.in_ok-add_cells.ensures.added ∙ ap (set.union c.args.cells.now) (spans-one c.args.order c.in-Some.index))
