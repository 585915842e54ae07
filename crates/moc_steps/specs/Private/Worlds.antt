-- The invariant of worlds in the program.
use Rattle.std.specs.Prelude.{◌≡◌, ℕ, ◌<◌, ◌^◌, List, map as map_list, Option, None, Some, get_or, slice_get, is_some}
use Rattle.std.specs.Prelude.{IfSome}
use Rattle.std.specs.Ordering.{nat_cmp}
use Rattle.std.specs.FinMap as map
use Rattle.moc_lists.specs.RangeList.{NumberSet}
use Rattle.moc_parts.specs.declared.command.Command.{Command}
use Rattle.moc_parts.specs.Batches.{batches}
use Rattle.moc_steps.specs.Machine.{Running, holder, is_nonempty}
use Rattle.moc_steps.specs.Orders.{operation_numbers}
use Rattle.moc_steps.specs.Theorems.{IsReachable}
use Rattle.moc_steps.specs.Played.{BatchWorld, entries_of}
use Rattle.moc_steps.specs.Private.ClientState.{ClientState}
use Rattle.moc_steps.specs.declared.step.Entry.{Entry}

-- a finite map with a function applied to each value
unfoldable pub map_values : {X Y : Type 0} → (X → Y) → map.FinMap nat_cmp X → map.FinMap nat_cmp Y
map_values f m = map.from_sorted (map_list (λ e. (e.0, f e.1)) (map.entries m))

-- the world that the program represents
abbrev pub world_of : ℕ → map.FinMap nat_cmp ClientState → List NumberSet → List Entry → BatchWorld
world_of begun clients parts order = record {
  locks = record { begun = begun; clients = map_values (λ s. s.running) clients };
  parts = parts;
  taken_content = map_values (λ s. s.taken_content) clients;
  order = entries_of order;
}

-- a client has the index of its entry if and only if it is committed
abbrev pub HasEntryIndex : List ℕ → Running (List Command) → Option ℕ → Type 0
HasEntryIndex ns r entry_index =
    (is_nonempty r.edited ≡ is_some entry_index) × IfSome entry_index (λ i. slice_get ns i ≡ Some r.number)

-- The invariant of a world: permitted steps lead to it, and the holder of each part is known. The numbers of clients
-- are below 2^32, and the indices of their entries are known.
pub record IsWorld (begun : ℕ) (clients : map.FinMap nat_cmp ClientState) (parts : List NumberSet)
    (holders : List (Option ℕ)) (order : List Entry) : Type 0 where
  pub reached : IsReachable batches (world_of begun clients parts order)
  pub held : (b : ℕ) → b < 12 → get_or holders b None ≡ holder batches (map_values (λ s. s.running) clients) b
  pub small : (c : ℕ) (r : Running (List Command)) → map.get (map_values (λ s. s.running) clients) c ≡ Some r
      → c < 2 ^ 32
  pub placed : (c : ℕ) (s : ClientState) → map.get clients c ≡ Some s
      → HasEntryIndex (operation_numbers (entries_of order)) s.running s.entry_index

-- no client holds a part
abbrev pub NoPartHeld : BatchWorld → Type 0
NoPartHeld w = (b : ℕ) → b < 12 → holder batches w.locks.clients b ≡ None

-- a client holds this part, and no client holds a higher part
abbrev pub IsHighestHolder : BatchWorld → ℕ → ℕ → Type 0
IsHighestHolder w c b =
    (holder batches w.locks.clients b ≡ Some c) × ((d : ℕ) → b < d → d < 12 → holder batches w.locks.clients d ≡ None)
