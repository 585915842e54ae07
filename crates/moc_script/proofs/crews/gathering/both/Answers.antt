-- The record of both.
use Rattle.std.proofs.Common.{sym, subst, Option}
use Rattle.moc_shared.specs.declared.client.Client.{Client}
use Rattle.moc_script.specs.Private.Gathering.{HasBoth}
use Rattle.moc_script.proofs.Gathered.{has_both}
use Rattle.moc_script.proofs.crews.gathering.both.Goals as goal

pub returns-in-Some-clause-both : goal.returns-in-Some-clause-both
returns-in-Some-clause-both c =
    subst (λ (o : Option Client). HasBoth o c.args.second c.take_in.new.a) (sym c.in-Some.is)
    (has_both c.args.map.now c.in-Some.client.seat.me.0.mine c.args.second.seat.me.0.mine c.take_in.new.a.seat.me.0.mine c.take_in.ensures.taken)
