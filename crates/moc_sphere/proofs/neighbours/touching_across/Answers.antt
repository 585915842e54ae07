use Rattle.std.proofs.Common.{◌≡◌, ◌<◌, sym, subst, arith, ◌∙◌}
use Rattle.moc_sphere.specs.CellNumber.{cell_count}
use Rattle.moc_sphere.specs.Private.Sides.{IsAtStep}
use Rattle.moc_sphere.proofs.Search.{Found, found_after_step_without_cell, found_skip, found_some, found_iff_touches}
use Rattle.moc_sphere.proofs.FaceBounds.{index_below}
use Rattle.moc_sphere.proofs.neighbours.touching_across.Goals as goal
use Rattle.moc_sphere.proofs.neighbours.touching_across.Goals.{then-step-ne4+in-Some, then-step-ne4+in_default, else-step-ne4}

-- the cell's index is in the range of its order
in_range : (c : goal.After-loop-step) → c.args.cell.index < cell_count c.args.cell.order
in_range c = index_below c.args.cell.order c.args.cell.index (subst (λ f. f < 12) (sym c.requires.place.face) c.requires.face)

all_touching_found : (c : goal.After-loop-step) → Found c.args.cell.order c.args.cell.index 9 c.loop-step.cells.items
all_touching_found c =
    let nine : c.loop-step.step ≡ 9 = omega arith in
    subst (λ t. Found c.args.cell.order c.args.cell.index t c.loop-step.cells.items) nine c.loop-step.invariant.found

pub returns-clause-touch : goal.returns-clause-touch
returns-clause-touch c =
    found_iff_touches c.args.cell.order c.args.cell.index c.loop-step.cells.items (in_range c) (all_touching_found c)

pub loop-step-preserved : goal.loop-step-preserved
loop-step-preserved c =
    let k = c.args.cell.order in
    let i = c.args.cell.index in
    let d = c.loop-step.step in
    let f = c.loop-step.invariant.found in
    elim c.if-step-ne4.branch [
      | then-step-ne4+in-Some w ↦
          rw w.cells-is (record {
            room = w.insert_sorted.ensures.capacity ∙ c.loop-step.invariant.room;
            found = found_some k i d c.loop-step.cells.items f w.index.result w.insert_sorted.new.list.items w.if-step-ne4.true
                (subst (λ j. IsAtStep k i d j) (sym w.index.ensures.value) w.in-Some.ensures.1)
                w.insert_sorted.ensures.ascending w.insert_sorted.ensures.len w.insert_sorted.ensures.has;
          })
      | then-step-ne4+in_default w ↦
          rw w.cells-is (record {
            room = c.loop-step.invariant.room;
            found = found_after_step_without_cell k i d c.loop-step.cells.items f w.if-step-ne4.true w.in_default.ensures;
          })
      | else-step-ne4 w ↦
          rw w.cells-is (record {
            room = c.loop-step.invariant.room;
            found = found_skip k i d c.loop-step.cells.items f w.if-step-ne4.false;
          })
    ]
