use Rattle.std.proofs.Common.{◌≡◌, ◌<◌, ℕ, List, [], ◌∷◌, ◌++◌, get_or, map, take, ap, subst, sym, ◌∙◌, rules}
use Rattle.std.specs.Prelude.{All, Contains}
use Rattle.std.proofs.lemmas.List.{map-append, take_more}
use Rattle.std.proofs.lemmas.List.Elements.{All-append, Contains-get_or}
use Rattle.moc_sphere.specs.CellNumber.{CellNumber, cell_count, cell_number}
use Rattle.moc_sphere.specs.Touching.{Touches}
use Rattle.moc_sphere.proofs.cell.Cell.touching_cells.Goals as goal

pub of-requires : goal.of-requires
of-requires c =
    let items = c.as_slice-index-items.result.now in
    let index = get_or items c.loop-index.index-index 0 in
    let is_item : Contains c.touching.result.items index =
    subst (λ (l : List ℕ). Contains l index) c.as_slice-index-items.ensures (Contains-get_or items c.loop-index.index-index 0 c.loop-index-test.true) in
    subst (λ k. index < cell_count k) (sym c.order-order.ensures) ((c.touching.ensures.touch index).0 is_item).second

pub loop-index-preserved : goal.loop-index-preserved
loop-index-preserved c =
    let k = c.args.self.order in
    let items = c.as_slice-index-items.result.now in
    let index = get_or items c.loop-index.index-index 0 in
    let is_item : Contains c.touching.result.items index =
    subst (λ (l : List ℕ). Contains l index) c.as_slice-index-items.ensures (Contains-get_or items c.loop-index.index-index 0 c.loop-index-test.true) in
    let touches : Touches k c.args.self.index index = (c.touching.ensures.touch index).0 is_item in
    let is_cell : c.of.result ≡ cell_number k index = c.of.ensures ∙ ap (λ n. cell_number n index) c.order-order.ensures in
    let pushed : c.push_reserved.new.self.items ≡ c.loop-index.cells.items ++ cell_number k index ∷ [] =
    c.push_reserved.ensures.items ∙ ap (λ cell. c.loop-index.cells.items ++ cell ∷ []) is_cell in (
      pushed
          ∙ ap (λ cells. cells ++ cell_number k index ∷ []) c.loop-index.invariant.0
          ∙ sym (map-append (cell_number k) (take c.loop-index.index-index items) (index ∷ []))
          ∙ ap (map (cell_number k)) (sym (take_more items c.loop-index.index-index 0 c.loop-index-test.true)),
      subst (All (Near k c.args.self.index)) (sym pushed)
          (All-append (Near k c.args.self.index) c.loop-index.cells.items (cell_number k index ∷ []) c.loop-index.invariant.1 (one k c.args.self.index index touches)),
      c.push_reserved.ensures.capacity ∙ c.loop-index.invariant.2,
    )
  where
    Near : ℕ → ℕ → CellNumber → Type 0
    Near k i c = (c.order ≡ k) × Touches k i c.index

    one : (k i j : ℕ) → Touches k i j → All (Near k i) (cell_number k j ∷ [])
    one k i j h = search rules
