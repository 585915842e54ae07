use Rattle.std.proofs.Common.{[], ◌∷◌, inl, inr, ap, ◌∙◌, subst}
use Rattle.moc_shared.specs.Clients.{AfterTryApply, record_of}
use Rattle.moc_c.specs.CallResults.{number_result, result_of}
use Rattle.moc_c.specs.Commands.{value_of_reply}
use Rattle.moc_c.specs.Sharing.{MemberEnds}
use Rattle.moc_c.proofs.MapCalls.{fails_trying}
use Rattle.moc_c.proofs.member.Member.execute.Goals as goal

pub returns-in-Ok-clause-executed : goal.returns-in-Ok-clause-executed
returns-in-Ok-clause-executed c =
    let m = c.args.self.now in
    let n = c.answer.new.self in
    let reply = c.in-Ok.reply in
    inl (
      reply,
      subst (λ k. MemberEnds m n (k ∷ []) (reply ∷ [])) c.command.ensures c.in-Ok.ensures.1,
      c.number.ensures ∙ ap number_result (c.value_of_reply.ensures ∙ ap (λ k. value_of_reply c.args.verb k reply) c.count-pixels.ensures.size),
    )

pub returns-clause-executed : goal.returns-clause-executed
returns-clause-executed c =
    let m = c.args.self.now in
    let n = c.answer.new.self in
    let fails = c.in-Err.ensures in
    inr (fails_trying m n _ c.in-Err.error c.of.result
    (subst (λ k. AfterTryApply m.map (k ∷ []) c.in-Err.error (record_of m.client) (record_of n.client)) c.command.ensures fails.1)
    (c.of.ensures ∙ ap result_of c.from.ensures))
