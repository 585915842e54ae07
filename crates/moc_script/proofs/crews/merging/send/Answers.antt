-- The pending bytes are written before the text.
use Rattle.std.proofs.Common.{List, ℕ, [], ◌++◌, refl, ap, ◌∙◌}
use Rattle.moc_devices.specs.Lemmas.{Accepts-nil, OnlyWrites-none, OnlyWrites-later, Sends-all}
use Rattle.moc_script.proofs.Sending.{Sends-front, Sends-fails}
use Rattle.moc_script.proofs.crews.merging.send.Goals as goal

pub returns-then-text-capacity : goal.returns-then-text-capacity
returns-then-text-capacity g c = record {
  sends = record { sent = []; rest = c.args.pending.now.items ++ c.args.text.now; parts = refl; appended = Accepts-nil (g.W.Sink.writing c.args.writer.now); pending = c.append_pending.ensures };
  writes = OnlyWrites-none c.args.writer.now;
}

pub returns-in_err-write_pending : goal.returns-in_err-write_pending
returns-in_err-write_pending g c =
    let failed = c.from_residual.ensures.0 in
    record {
      sends = Sends-fails c.args.pending.now.items c.args.text.now c.write_pending.new.pending.items c.write_pending.new.pending.items _ _ c.write_pending.result c.from_residual.result failed c.write_pending.ensures.sends;
      writes = rw failed c.in_err-write_pending.ensures.writes;
    }

pub returns-then-text-capacity-2 : goal.returns-then-text-capacity-2
returns-then-text-capacity-2 g c =
    let text = c.args.text.now in
    let old = c.args.pending.now.items in
    let none = c.in_ok-write_pending.ensures.all in
    record {
      sends = rw none (Sends-front old text [] (g.W.Sink.writing c.args.writer.now) (g.W.Sink.writing c.write_pending.new.writer) (g.W.Sink.writing c.write_all.new.writer) c.write_all.result
          (Sends-all old c.write_pending.new.pending.items _ _ c.in_ok-write_pending.ensures.sends none) c.write_all.ensures.sends);
      writes = OnlyWrites-later c.in_ok-write_pending.ensures.writes c.write_all.ensures.writes;
    }

pub returns : goal.returns
returns g c =
    let none = c.in_ok-write_pending.ensures.all in
    record {
      sends = record {
        sent = c.args.pending.now.items;
        rest = c.args.text.now;
        parts = refl;
        appended = Sends-all c.args.pending.now.items c.write_pending.new.pending.items _ _ c.in_ok-write_pending.ensures.sends none;
        pending = c.append_pending-2.ensures ∙ ap (λ l. l ++ c.args.text.now) none;
      };
      writes = c.in_ok-write_pending.ensures.writes;
    }
