use Rattle.std.proofs.Common.{◌≡◌, take}
use Rattle.moc_parts.proofs.reply.Replies.try_copy.Given as goal

abbrev pub invariant-loop-reply : goal.invariant-loop-reply
invariant-loop-reply l = l.copy ≡ take l.reply-index l.reply-items
