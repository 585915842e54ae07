use Rattle.std.proofs.Common.{ap, ◌∙◌}
use Rattle.moc_c.specs.CallResults.{result_of}
use Rattle.moc_c.proofs.MapCalls.{writes_whole_set, whole_set_not_written}
use Rattle.moc_c.proofs.client_state.ClientState.store_set.Goals as goal

pub returns-in-Ok : goal.returns-in-Ok
returns-in-Ok c =
    writes_whole_set c.args.self.now c.in-Some.member c.read.new.self c.args.table.now c.insert_new.new.self c.in-Ok.set c.insert_new.result c.in-Some.is c.in-Ok.ensures c.insert_new.ensures

pub returns-in-Err : goal.returns-in-Err
returns-in-Err c =
    whole_set_not_written c.args.self.now c.in-Some.member c.read.new.self c.args.table.now c.in-Err.error c.of-in-Err.result c.in-Some.is c.in-Err.ensures (c.of-in-Err.ensures ∙ ap result_of c.from.ensures)
