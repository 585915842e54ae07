-- One more text follows those before it.
use Rattle.std.proofs.Common.{arith}
use Rattle.std.proofs.lemmas.Grind.{common_steps}
use Rattle.moc_lines.proofs.reply_text.push_replies.Goals as goal

pub loop-reply-init : goal.loop-reply-init
loop-reply-init c = grind (arith, common_steps)

pub loop-reply-preserved : goal.loop-reply-preserved
loop-reply-preserved c = grind (arith, common_steps)

pub returns : goal.returns
returns c = grind (arith, common_steps)
