use Rattle.std.proofs.Common.{◌≡◌, Ok, refl, subst}
use Rattle.moc_c.specs.Buffers.{set_of_cells_or_error}
use Rattle.moc_c.proofs.MapCalls.{called_with_set}
use Rattle.moc_c.proofs.client_state.ClientState.answer_set_of_cells.Goals as goal

pub returns-in-Ok : goal.returns-in-Ok
returns-in-Ok c =
    called_with_set c.args.verb c.args.self.now _ c.in-Some.member c.execute.new.self (set_of_cells_or_error c.args.order c.args.cells.now) c.in-Ok.set
    c.execute.result c.in-Some.is (subst (λ k. set_of_cells_or_error k c.args.cells.now ≡ Ok c.in-Ok.set) c.in-Some-new.ensures.1 c.in-Ok.ensures)
    c.execute.ensures.after refl c.execute.ensures.executed
