use Rattle.std.proofs.Common.{◌<◌, ℕ, List, get_or, sym, subst, ◌≡◌, ◌||◌, Bool, ℕ, nat_eq, take, ap, sym, ◌∙◌}
use Rattle.std.specs.Prelude.{Contains}
use Rattle.std.proofs.lemmas.List.Elements.{Contains-get_or}
use Rattle.moc_sphere.specs.CellNumber.{cell_count}
use Rattle.std.specs.List.{list_any}
use Rattle.std.proofs.lemmas.List.{take_more}
use Rattle.moc_sphere.specs.Faces.{face_of}
use Rattle.moc_parts.proofs.Flags.{inserted, no_pixel_in_empty, any-more}
use Rattle.moc_parts.proofs.footprint.parts_around.Goals as goal

pub of-requires : goal.of-requires
of-requires c =
    let items = c.as_slice-index-items.result.now in
    let index = get_or items c.loop-index.index-index 0 in
    let is_item : Contains c.touching.result.items index =
    subst (λ (l : List ℕ). Contains l index) c.as_slice-index-items.ensures (Contains-get_or items c.loop-index.index-index 0 c.loop-index-test.true) in
    subst (λ k. index < cell_count k) (sym c.order.ensures) ((c.touching.ensures.touch index).0 is_item).second

pub loop-index-init : goal.loop-index-init
loop-index-init c k l =
    inserted c.none-parts.result c.insert.new.self c.part_of_cell.result k c.insert.ensures
    ∙ (λ i. nat_eq (c.part_of_cell.ensures i) k || no_pixel_in_empty c.none-parts.result k c.none-parts.ensures i)

pub loop-index-preserved : goal.loop-index-preserved
loop-index-preserved c k l =
    let items = c.as_slice-index-items.result.now in
    let index = get_or items c.loop-index.index-index 0 in
    let order = c.args.cell.order in
    let test : ℕ → Bool = λ n. nat_eq (face_of order n) k in
    let cell : c.part_of_cell-in-loop-index.result ≡ face_of order index =
    c.part_of_cell-in-loop-index.ensures ∙ (λ i. face_of ((c.of.ensures i).order) ((c.of.ensures i).index)) ∙ ap (λ o. face_of o index) c.order.ensures in
    inserted c.loop-index.parts c.insert-in-loop-index.new.self c.part_of_cell-in-loop-index.result k c.insert-in-loop-index.ensures
    ∙ (λ i. nat_eq (cell i) k || c.loop-index.invariant k l i)
    ∙ any-more test (take c.loop-index.index-index items) index (test c.args.cell.index)
    ∙ ap (λ xs. test c.args.cell.index || list_any test xs) (sym (take_more items c.loop-index.index-index 0 c.loop-index-test.true))
