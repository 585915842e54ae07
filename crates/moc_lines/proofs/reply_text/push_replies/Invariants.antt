-- The text so far and the texts of the other replies are the texts of all.
use Rattle.std.proofs.Common.{◌≡◌, ◌++◌, codes, drop}
use Rattle.std.specs.List.{flat_map}
use Rattle.moc_lines.specs.Language.{reply_text, replies_text}
use Rattle.moc_lines.proofs.reply_text.push_replies.Given as goal

abbrev pub invariant-loop-reply : goal.invariant-loop-reply
invariant-loop-reply l = l.fn.text.items ++ replies_text l.fn.replies ≡ l.text.items ++ flat_map (λ reply. codes " ; " ++ reply_text reply) (drop l.reply-index l.later)
