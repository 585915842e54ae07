-- The first text is accepted, and the part of the second that is written follows it.
use Rattle.std.proofs.Common.{[]}
use Rattle.moc_devices.specs.Lemmas.{OnlyWrites-later}
use Rattle.moc_script.proofs.Sending.{Sends-front, Sends-fails}
use Rattle.moc_script.proofs.crews.merging.write_both.Goals as goal

pub returns-in_err-write_all : goal.returns-in_err-write_all
returns-in_err-write_all g c =
    let failed = c.from_residual.ensures.0 in
    record {
      sends = Sends-fails c.args.text.now c.args.following.now [] [] _ _ c.write_all.result c.from_residual.result failed c.write_all.ensures.sends;
      writes = rw failed c.in_err-write_all.ensures.writes;
    }

pub returns : goal.returns
returns g c = record {
  sends = Sends-front c.args.text.now c.args.following.now [] _ _ _ c.write_all-2.result c.in_ok-write_all.ensures.written c.write_all-2.ensures.sends;
  writes = OnlyWrites-later c.in_ok-write_all.ensures.writes c.write_all-2.ensures.writes;
}
