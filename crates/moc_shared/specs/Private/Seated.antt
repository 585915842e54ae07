-- The seats of clients and holdings between calls.
use Rattle.std.specs.Prelude.{◌≡◌, []}
use Rattle.moc_shared.specs.declared.client.Client.{Client}
use Rattle.moc_shared.specs.declared.client.Holding.{Holding}
use Rattle.moc_shared.specs.declared.map.SharedMap.{SharedMap}
use Rattle.moc_shared.specs.Private.Invariant.{IsSingleClient}
use Rattle.moc_shared.specs.Private.Seats.{IsCarried, notes_below, AreWithinOwnParts, IsFootprint}

-- the client belongs to this map and holds no part
pub record IsClientOf (map : SharedMap) (c : Client) : Type 0 where
  pub table : c.seat.table_id ≡ map.table.shared.table_id
  pub one : IsSingleClient c.seat.me.0
  pub number : c.number ≡ c.seat.me.0.mine.number
  pub no_slot : c.seat.me.1 ≡ []
  pub no_part : c.seat.me.0.holds ≡ []
  pub start : c.seat.me.0.start ≡ map.table.shared.key.start
  pub clients : c.seat.me.0.clients ≡ map.table.shared.key.clients

-- the holding belongs to this map and holds exactly the parts in the footprint of its batch
pub record IsHoldingOf (map : SharedMap) (h : Holding) : Type 0 where
  pub table : h.client.seat.table_id ≡ map.table.shared.table_id
  pub one : IsSingleClient h.client.seat.me.0
  pub number : h.client.number ≡ h.client.seat.me.0.mine.number
  pub carried : IsCarried h.client.seat.me
  pub held : h.client.seat.me.0.holds ≡ notes_below h.slots 12
  pub footprint : IsFootprint h.batch h.slots
  pub own : AreWithinOwnParts h.slots
  pub start : h.client.seat.me.0.start ≡ map.table.shared.key.start
  pub clients : h.client.seat.me.0.clients ≡ map.table.shared.key.clients
