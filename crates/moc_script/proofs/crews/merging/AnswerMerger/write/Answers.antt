-- The ways in which the writing ends.
use Rattle.std.proofs.Common.{List, ℕ, [], ◌++◌, subst}
use Rattle.moc_devices.specs.Devices.{Sends}
use Rattle.moc_devices.specs.Lemmas.{OnlyWrites-later}
use Rattle.moc_script.proofs.Sending.{Sends-error, Sends-then}
use Rattle.moc_script.proofs.Joinings.{joins_fail, merge_after_sending}
use Rattle.moc_script.proofs.crews.merging.AnswerMerger.write.Goals as goal

pub returns-in_err-write_turns-clause-sends : goal.returns-in_err-write_turns-clause-sends
returns-in_err-write_turns-clause-sends g c =
    joins_fail c.args.self.walks.items c.args.following.now c.write_turns.new.self.pending.items _ _ c.write_turns.result c.from_residual.result c.from_residual.ensures.0 c.write_turns.ensures.sends

pub returns-in_err-send-clause-sends : goal.returns-in_err-send-clause-sends
returns-in_err-send-clause-sends g c =
    let pending = c.write_turns.new.self.pending.items in
    merge_after_sending c.args.self.walks.items c.args.following.now pending _ _ _ c.from_residual-in_err-send.result c.in_ok-write_turns.ensures.sends
    (Sends-error (pending ++ c.args.following.now) c.send.new.pending.items [] _ _ c.send.result c.from_residual-in_err-send.result c.from_residual-in_err-send.ensures.0 c.send.ensures.sends)

pub returns-clause-sends : goal.returns-clause-sends
returns-clause-sends g c =
    let pending = c.write_turns.new.self.pending.items in
    let last = c.send.new.pending.items in
    merge_after_sending c.args.self.walks.items c.args.following.now pending _ _ _ c.write_all.result c.in_ok-write_turns.ensures.sends
    (Sends-then (pending ++ c.args.following.now) last [] (g.W.Sink.writing c.write_turns.new.writer) (g.W.Sink.writing c.send.new.writer) (g.W.Sink.writing c.write_all.new.writer) c.write_all.result c.in_ok-send.ensures.sends
    (subst (λ (l : List ℕ). Sends l (g.W.Sink.writing c.send.new.writer) [] (g.W.Sink.writing c.write_all.new.writer) c.write_all.result) c.deref.ensures.value c.write_all.ensures.sends))

pub returns-in_err-write_turns-clause-writes : goal.returns-in_err-write_turns-clause-writes
returns-in_err-write_turns-clause-writes g c = rw c.from_residual.ensures.0 c.in_err-write_turns.ensures.writes

pub returns-in_err-send-clause-writes : goal.returns-in_err-send-clause-writes
returns-in_err-send-clause-writes g c = rw c.from_residual-in_err-send.ensures.0 (OnlyWrites-later c.in_ok-write_turns.ensures.writes c.in_err-send.ensures.writes)

pub returns-clause-writes : goal.returns-clause-writes
returns-clause-writes g c = OnlyWrites-later c.in_ok-write_turns.ensures.writes (OnlyWrites-later c.in_ok-send.ensures.writes c.write_all.ensures.writes)
