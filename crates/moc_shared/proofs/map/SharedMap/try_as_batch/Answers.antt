use Rattle.std.proofs.Common.{List, [], ◌∷◌, ap, ◌∙◌, subst}
use Rattle.moc_parts.specs.declared.command.Command.{Command}
use Rattle.moc_shared.specs.Clients.{TakesEffect, call_of}
use Rattle.moc_shared.proofs.SingleCommands.{only_reply}
use Rattle.moc_shared.proofs.map.SharedMap.try_as_batch.Goals as goal

pub into_only-requires : goal.into_only-requires
into_only-requires c =
    only_reply c.args.self.now c.args.command.now c.in_ok-replies.replies c.args.client.now.number
    c.args.client.now.seat.me.0.mine c.try_apply.new.client.seat.me.0.mine
    (subst (λ (cs : List Command). TakesEffect c.args.self.now (call_of c.args.client.now cs c.in_ok-replies.replies)
    c.args.client.now.seat.me.0.mine c.try_apply.new.client.seat.me.0.mine) (c.in_ok-batch.ensures ∙ ap (λ x. x ∷ []) c.in_ok-try_copy.ensures)
    c.in_ok-replies.ensures.ok)
