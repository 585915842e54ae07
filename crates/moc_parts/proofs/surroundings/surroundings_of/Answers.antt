use Rattle.std.proofs.Common.{◌≡◌, ◌<◌, ℕ, ◌∷◌, List, get_or, take, map, sym, ap, subst, ◌∙◌}
use Rattle.std.specs.FinSet as set
use Rattle.std.specs.Prelude.{Contains, IfOk, Result, Ok, Err}
use Rattle.std.proofs.lemmas.List.Elements.{Contains-get_or}
use Rattle.std.proofs.lemmas.List.{take_all, take_more}
use Rattle.moc_sphere.specs.CellNumber.{cell_count, cell_number}
use Rattle.moc_lists.specs.RangeList.{NumberSet}
use Rattle.moc_ranges.specs.Cells.{spans, pixels_of}
use Rattle.moc_parts.specs.Commands.{surroundings}
use Rattle.moc_parts.proofs.CellSurroundings.{pixels_of_single_index, one_cell_more}
use Rattle.moc_parts.proofs.surroundings.surroundings_of.Goals as goal

pub loop-index-init : goal.loop-index-init
loop-index-init c =
    c.in_ok-add_cells.ensures.added
    ∙ (λ i. set.union (c.new-around.ensures i) (spans (c.order-order.ensures i) (c.index.ensures.value i) (c.index-2.ensures.value i)))
    ∙ pixels_of_single_index c.args.cell.order c.args.cell.index

pub add_cells-requires-in-loop-index : goal.add_cells-requires-in-loop-index
add_cells-requires-in-loop-index c =
    let items = c.as_slice-index-items.result.now in
    let index = get_or items c.loop-index.index-index 0 in
    let is_item : Contains c.touching.result.items index =
    subst (λ (l : List ℕ). Contains l index) c.as_slice-index-items.ensures (Contains-get_or items c.loop-index.index-index 0 c.loop-index-test.true) in
    subst (λ k. index < cell_count k) (sym c.order-order.ensures) ((c.touching.ensures.touch index).0 is_item).second

pub loop-index-preserved : goal.loop-index-preserved
loop-index-preserved c =
    let k = c.args.cell.order in
    let items = c.as_slice-index-items.result.now in
    let index = get_or items c.loop-index.index-index 0 in
    c.in_ok-add_cells-2.ensures.added
    ∙ (λ i. set.union (c.loop-index.invariant i) (spans (c.order-order.ensures i) index index))
    ∙ one_cell_more k (c.args.cell.index ∷ take c.loop-index.index-index items) index
    ∙ ap (λ cells. pixels_of (map (cell_number k) (c.args.cell.index ∷ cells))) (sym (take_more items c.loop-index.index-index 0 c.loop-index-test.true))

pub returns : goal.returns
unfolding surroundings
returns c =
    let k = c.args.cell.order in
    let items = c.as_slice-index-items.result.now in
    let all : take c.loop-index.index-index items ≡ items = take_all c.loop-index.index-index items c.loop-index-test.false in
    on_ok c.build.result c.build.ensures
    (c.loop-index.invariant
    ∙ ap (λ cells. pixels_of (map (cell_number k) (c.args.cell.index ∷ cells))) (all ∙ c.as_slice-index-items.ensures ∙ c.touching.ensures.whole))
  where
    on_ok : {E : Type 0} {a b : NumberSet} (r : Result NumberSet E) → IfOk r (λ s. s ≡ a) → a ≡ b → IfOk r (λ s. s ≡ b)
    on_ok (Ok s) is same = is ∙ same
    on_ok (Err e) is same = is
