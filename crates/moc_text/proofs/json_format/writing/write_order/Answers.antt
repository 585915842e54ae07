use Rattle.std.proofs.Common.{◌≡◌, ◌++◌, ℕ, List, [], sym, subst, inl, inr, arith, map}
use Rattle.std.specs.Result.{IfOk}
use Rattle.serde_json.specs.Data.{Members}
use Rattle.moc_ranges.specs.Cells.{cells_in, cells_of}
use Rattle.moc_sphere.specs.CellNumber.{CellNumber}
use Rattle.serde_json.specs.Written.{members_text}
use Rattle.moc_text.specs.JsonText.{datum}
use Rattle.moc_text.specs.Private.JsonWriting.{prepend_member}
use Rattle.moc_text.proofs.Runs.{of_order}
use Rattle.moc_text.proofs.JsonRuns.{no_cells_of, order_written}
use Rattle.moc_text.proofs.json_format.writing.write_order.Goals as goal

pub returns : goal.returns
returns c = λ members.
    let k = c.args.depth in
    let cells = cells_of c.args.output.set.now in
    let s = c.cell_ranges-ranges.result in
    let is : cells_in k s ≡ of_order k cells = subst (λ (n : ℕ). cells_in n s ≡ of_order n cells) c.of.ensures c.cell_ranges-ranges.ensures.cells in
    order_written k c.args.output.empty_order c.args.has_previous (c.in-Some.first, c.in-Some.end) s c.next.new.self (of_order k cells) c.args.text.now c.write_name.new.text c.push_number.new.self c.write_run.new.text c.write_runs.new.text members
    c.cell_ranges-ranges.ensures.normal c.in-Some.ensures.steps is c.in_ok-write_name.ensures c.in_ok-push_number.ensures c.in_ok-write_run.ensures c.in_ok-write_runs.ensures

pub returns-then-depth-output : goal.returns-then-depth-output
returns-then-depth-output c =
    let k = c.args.depth in
    let cells = cells_of c.args.output.set.now in
    let none : of_order k cells ≡ [] = no_cells_of c.args.output.orders.0 c.args.output.orders.1 k cells c.requires.each (λ low high. elim c.then-depth-output.either [
      | inl before ↦ omega (arith, low, before)
      | inr past ↦ omega (arith, high, past.1)
    ]) in
    subst (λ (l : List CellNumber). IfOk c.write_bare.result (λ after. (members : Members) → c.write_bare.new.text ++ members_text after members ≡ c.args.text.now ++ members_text c.args.has_previous (prepend_member k c.args.output.empty_order (map datum l) members))) (sym none) c.write_bare.ensures
