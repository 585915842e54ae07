use Rattle.std.proofs.Common.{sym, ◌∙◌}
use Rattle.moc_c.proofs.MapCalls.{joined}
use Rattle.moc_c.proofs.client_state.ClientState.join.Goals as goal

pub returns : goal.returns
returns c =
    joined c.args.self.now c.args.other.now c.set_member.new.self c.in-Some.member c.give.new.self c.give.result c.set_member.result c.in-Some.is
    (sym c.is_some.ensures ∙ c.if-is_some.false) c.give.ensures c.set_member.ensures
