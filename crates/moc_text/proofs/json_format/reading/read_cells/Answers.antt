use Rattle.std.proofs.Common.{◌≡◌, ℕ, suc, ◌+◌, arith, drop-cons, List, [], ◌∷◌, drop, sym, ap, ◌∙◌}
use Rattle.std.specs.FinSet as set
use Rattle.std.proofs.lemmas.List.{drop_all}
use Rattle.serde_json.specs.View.{view, items_view}
use Rattle.serde_json.specs.declared.value.Value.{Value}
use Rattle.moc_ranges.specs.Lemmas.{union-empty}
use Rattle.moc_text.specs.JsonFormat.{items_pixels, elements_error}
use Rattle.moc_text.proofs.JsonMembers.{element_without_error, item_added}
use Rattle.moc_text.proofs.json_format.reading.read_cells.Goals as goal

pub loop-place-preserved : goal.loop-place-preserved
loop-place-preserved c =
    let rest = drop (c.loop-place.place + 1) c.args.values.now in
    let value = c.index-values-place.result in
    let after : suc c.loop-place.place ≡ c.loop-place.place + 1 = omega arith in
    let next : drop c.loop-place.place c.args.values.now ≡ value ∷ rest =
    drop-cons c.args.values.now c.loop-place.place value c.loop-place-test.true ∙ ap (λ (v : Value). v ∷ drop (suc c.loop-place.place) c.args.values.now) (sym c.index-values-place.is) ∙ ap (λ (n : ℕ). value ∷ drop n c.args.values.now) after in
    let read = c.in_ok-read_cell.ensures in
    record {
      fault = element_without_error c.args.order c.args.name c.loop-place.place (view value) (items_view rest) read.0 ∙ ap (λ (vs : List Value). elements_error c.args.order c.args.name c.loop-place.place (items_view vs)) (sym next) ∙ c.loop-place.invariant.fault;
      set = item_added c.args.order c.loop-place.cells c.read_cell.new.cells (view value) (items_view rest) read.1 ∙ ap (λ (vs : List Value). set.union c.loop-place.cells (items_pixels c.args.order (items_view vs))) (sym next) ∙ c.loop-place.invariant.set;
    }

pub returns : goal.returns
returns c =
    let none : drop c.loop-place.place c.args.values.now ≡ [] = drop_all c.loop-place.place c.args.values.now c.loop-place-test.false in (
      sym c.loop-place.invariant.fault ∙ ap (λ (vs : List Value). elements_error c.args.order c.args.name c.loop-place.place (items_view vs)) none,
      sym (union-empty c.loop-place.cells) ∙ ap (λ (vs : List Value). set.union c.loop-place.cells (items_pixels c.args.order (items_view vs))) (sym none) ∙ c.loop-place.invariant.set,
    )
