use Rattle.std.proofs.Common.{[], ◌∷◌}
use Rattle.moc_shared.specs.History.{call_by}
use Rattle.moc_shared.proofs.calls.single.execute_single.Given as goal

abbrev pub ghosts-end_single : goal.ghosts-end_single
ghosts-end_single g a =
    record { call = call_by a.seat.now.me.0.mine.number ((g.C.PartCommand.command a.command.now) ∷ []) (a.reply.now ∷ []); notes = [] }
