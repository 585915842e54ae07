use Rattle.std.proofs.Common.{sym, ◌∙◌}
use Rattle.moc_c.specs.Answers.{both, set_at}
use Rattle.moc_c.specs.Sharing.{client_count}
use Rattle.moc_c.proofs.MapCalls.{handle_in_use_at_begin}
use Rattle.moc_c.proofs.client_state.ClientState.begin.Goals as goal

pub returns-then-is_some : goal.returns-then-is_some
returns-then-is_some c =
    handle_in_use_at_begin c.args.self.now.member c.args.self.now.replies (both (set_at c.args.table.now c.args.a) (client_count c.args.clients)) c.of.result
    (sym c.is_some.ensures ∙ c.if-is_some.true) c.of.ensures
