-- The view of the first seat of a map, which stands for all its clients.
use Rattle.std.specs.Prelude.{ℕ, zero, suc, List, [], ◌∷◌}
use Rattle.moc_shared.specs.declared.record.Record.{Record}
use Rattle.moc_shared.specs.declared.record.View.{View}
use Rattle.moc_shared.specs.History.{new_client_record}

module _ {O R : Type 0} where
  -- a record that stands for no client
  abbrev pub no_client : Record O R
  no_client = record { number = 0; seen = []; own = []; marks = []; misses = [] }

  -- k new clients, numbered from c on
  abbrev pub new_client_records : ℕ → ℕ → List (Record O R)
  new_client_records c zero = []
  new_client_records c (suc k) = new_client_record c ∷ new_client_records (suc c) k

module _ {X O R Y : Type 0} where
  -- a view that stands for no client and holds no part
  abbrev pub idle_view : X → ℕ → View X O R Y
  idle_view start clients = record { start = start; clients = clients; mine = no_client; others = []; holds = [] }

  -- a view that stands for these clients and holds no part
  abbrev pub view_for : X → ℕ → List (Record O R) → View X O R Y
  view_for start clients [] = idle_view start clients
  view_for start clients (r ∷ rs) = record { start = start; clients = clients; mine = r; others = rs; holds = [] }

  -- the view of the first seat, which stands for all clients
  abbrev pub first_view : X → ℕ → View X O R Y
  first_view start clients = view_for start clients (new_client_records 0 clients)

  -- the view of a second seat that gets all records but the first
  abbrev pub rest_view : View X O R Y → View X O R Y
  rest_view v = view_for v.start v.clients v.others
