-- A client of a shared map, with all that it needs for calls.
use Rattle.std.specs.Prelude.{◌≡◌, ◌++◌, ◌∷◌, [], ℕ, List}
use Rattle.moc_lists.specs.RangeList.{NumberSet}
use Rattle.moc_shared.specs.Clients.{AreNewClients, clients_of, start_of}
use Rattle.moc_shared.specs.declared.client.Client.{Client}
use Rattle.moc_shared.specs.declared.map.SharedMap.{SharedMap}

-- a map, a client of it, and the further clients that it can give away
pub record Membership : Type 0 where
  pub map : SharedMap
  pub client : Client
  pub unassigned : List Client

-- the map is new: it starts with the set and has this number of clients, which have not made a call
pub record IsNewMember (start : NumberSet) (clients : ℕ) (m : Membership) : Type 0 where
  pub begins : start_of m.map ≡ start
  pub count : clients_of m.map ≡ clients
  pub new : AreNewClients m.map (m.unassigned ++ m.client ∷ []) clients
