use Rattle.std.proofs.Common.{◌≡◌, take}
use Rattle.moc_parts.proofs.batch.Batch.try_copy.Given as goal

abbrev pub invariant-loop-command : goal.invariant-loop-command
invariant-loop-command l = l.commands.items ≡ take l.command-index l.command-items
