use Rattle.std.proofs.Common.{◌≡◌, take}
use Rattle.moc_parts.specs.Batches.{set_after_all, replies_on}
use Rattle.moc_parts.proofs.draft.Draft.answer_all.Given as goal

abbrev pub invariant-loop-command : goal.invariant-loop-command
invariant-loop-command l =
    (l.self.set ≡ set_after_all l.fn.self.set (take l.command-index l.commands))
    × (l.replies ≡ replies_on l.fn.self.set (take l.command-index l.commands))
    × (l.self.before ≡ l.fn.self.before)
