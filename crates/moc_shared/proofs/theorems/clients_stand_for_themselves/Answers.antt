use Rattle.std.proofs.Common.{sym, subst}
use Rattle.moc_shared.specs.History.{StandsFor}
use Rattle.moc_shared.proofs.theorems.clients_stand_for_themselves.Goals as goal

pub returns : goal.returns
returns c = record {
  client = λ the d of. (sym of.number, subst (StandsFor d.seat.me.0.mine) (sym of.number) of.one.1);
  holder = λ the h of. (sym of.number, subst (StandsFor h.client.seat.me.0.mine) (sym of.number) of.one.1);
}
