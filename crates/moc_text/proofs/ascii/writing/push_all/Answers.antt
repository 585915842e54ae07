use Rattle.std.proofs.Common.{◌≡◌, ◌++◌, ◌+◌, ℕ, List, None, ap, subst, sym, ◌∙◌}
use Rattle.std.proofs.lemmas.Result.{on_ok_weaker}
use Rattle.moc_sphere.specs.CellNumber.{CellNumber}
use Rattle.moc_ranges.specs.Cells.{cells_in, cells_of}
use Rattle.moc_text.specs.AsciiText.{runs_of}
use Rattle.moc_text.specs.Private.AsciiWriting.{cells_from, remaining_text}
use Rattle.moc_text.specs.declared.ascii.writing.Run.{Run}
use Rattle.moc_text.proofs.Join.{remaining_text-join}
use Rattle.moc_text.proofs.JsonWritten.{cells_ascend}
use Rattle.moc_text.proofs.Runs.{from_first, from_last, of_order, order_step}
use Rattle.moc_text.proofs.ascii.writing.push_all.Goals as goal

pub loop-level-init : goal.loop-level-init
loop-level-init g c =
    let cells = cells_of c.args.set.now in
    ap (λ (l : List CellNumber). c.args.text.now ++ remaining_text c.args.stated None (runs_of l)) (from_first c.args.orders.0 c.args.orders.1 cells c.requires.each)
    ∙ ap (λ (t : List ℕ). c.args.text.now ++ t) (remaining_text-join c.args.stated (runs_of cells))

pub loop-level-preserved : goal.loop-level-preserved
loop-level-preserved g c =
    let k = c.loop-level.level in
    let cells = cells_of c.args.set.now in
    let ps = c.cell_ranges.result in
    let is : cells_in k ps ≡ of_order k cells = subst (λ (n : ℕ). cells_in n ps ≡ of_order n cells) c.of.ensures c.cell_ranges.ensures.cells in
    c.in_ok-before.ensures c.args.stated (runs_of (cells_from (k + 1) cells))
    ∙ ap (λ (rs : List Run). c.loop-level.text ++ remaining_text c.args.stated c.loop-level.before rs) (sym (order_step k cells ps (cells_ascend c.args.set.now) c.cell_ranges.ensures.normal is))
    ∙ c.loop-level.invariant

pub returns : goal.returns
returns g c =
    let cells = cells_of c.args.set.now in
    on_ok_weaker c.push_stated.result (λ e. e
    ∙ ap (λ (l : List CellNumber). c.loop-level.text ++ remaining_text c.args.stated c.loop-level.before (runs_of l)) (sym (from_last c.args.orders.0 c.args.orders.1 c.loop-level.level cells c.requires.each c.loop-level-test.false))
    ∙ c.loop-level.invariant) c.push_stated.ensures
