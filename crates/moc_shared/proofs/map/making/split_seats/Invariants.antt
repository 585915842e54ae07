use Rattle.std.proofs.Common.{◌≡◌, ◌-◌, []}
use Rattle.moc_shared.specs.Private.InitialViews.{view_for, new_client_records}
use Rattle.moc_shared.specs.Clients.{start_of, AreNewClients}
use Rattle.moc_shared.proofs.map.making.split_seats.Given as goal

abbrev pub invariant-loop-number : goal.invariant-loop-number
invariant-loop-number l = record {
  table : l.seat.table_id ≡ l.map.table.shared.table_id;
  view : l.seat.me.0 ≡ view_for (start_of l.map) l.clients (new_client_records l.number (l.clients - l.number));
  no_slot : l.seat.me.1 ≡ [];
  dealt : AreNewClients l.map l.all.items l.number;
}
