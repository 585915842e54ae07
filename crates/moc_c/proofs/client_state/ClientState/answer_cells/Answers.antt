use Rattle.std.proofs.Common.{refl}
use Rattle.moc_ranges.specs.Cells.{span}
use Rattle.moc_c.specs.Buffers.{set_of_cells_or_error}
use Rattle.moc_c.proofs.CellCommands.{executes_verb}
use Rattle.moc_c.proofs.MapCalls.{called_with_set}
use Rattle.moc_c.proofs.client_state.ClientState.answer_cells.Goals as goal

pub returns-in-Some-member : goal.returns-in-Some-member
returns-in-Some-member c =
    let cell = c.in-Some.command.cell in
    called_with_set c.args.verb c.args.self.now _ c.in-Some-member.member c.execute_on_cell.new.self (set_of_cells_or_error c.args.order c.args.cells.now)
    (span cell.order cell.index) c.execute_on_cell.result c.in-Some-member.is c.in-Some.ensures.only c.execute_on_cell.ensures.after refl
    (executes_verb c.in-Some-member.member c.execute_on_cell.new.self c.args.verb c.in-Some.command.action cell c.execute_on_cell.result
    c.in-Some.ensures.acts c.execute_on_cell.ensures.executed)
