use Rattle.std.proofs.Common.{Ok, refl, ap, sym, ◌∙◌}
use Rattle.moc_c.specs.Answers.{set_at}
use Rattle.moc_c.proofs.MapCalls.{called_with_set}
use Rattle.moc_c.proofs.client_state.ClientState.answer_set.Goals as goal

pub returns-in-Ok-try_copy : goal.returns-in-Ok-try_copy
returns-in-Ok-try_copy c =
    called_with_set c.args.verb c.args.self.now _ c.in-Some.member c.execute.new.self (set_at c.args.table.now c.args.a) c.in-Ok-try_copy.set
    c.execute.result c.in-Some.is (c.in-Ok.ensures ∙ ap Ok (sym c.in-Ok-try_copy.ensures.same)) c.execute.ensures.after refl c.execute.ensures.executed
