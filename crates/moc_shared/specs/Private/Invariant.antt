-- The invariant of a map's table between any two steps, for any content of slots and any sequential object.
use Rattle.std.specs.Prelude.{◌≡◌, ◌≢◌, ◌⊎◌, ℕ, suc, ◌<◌, ◌≤◌, List, [], ◌∷◌, map, length, slice_index, sum_by}
use Rattle.std.specs.Prelude.{Contains}
use mathlib.Core.Option.{Option, none, some}
use lib.ListN.{get_elem?}
use Rattle.atomic_table.specs.Table.{State}
use Rattle.moc_shared.specs.declared.record.Call.{Call}
use Rattle.moc_shared.specs.declared.record.Record.{Record}
use Rattle.moc_shared.specs.declared.record.Note.{Note}
use Rattle.moc_shared.specs.declared.record.View.{View}
use Rattle.moc_shared.specs.History.{IsConsistent, StandsFor, times_standing, state_after, IsLegal}
use Rattle.moc_shared.specs.Seats.{table_index, note}

-- the index belongs to no part
abbrev pub IsSpare : ℕ → Type 0
IsSpare k = (b : ℕ) → table_index b ≢ k

module _ {X O R Y : Type 0} where
  -- the records of a view
  abbrev pub records : View X O R Y → List (Record O R)
  records v = v.mine ∷ v.others

  -- the record is in some view
  abbrev pub IsPresent : List (View X O R Y) → Record O R → Type 0
  IsPresent views r = (i : ℕ) × (v : View X O R Y) × (get_elem? views i ≡ some v) × Contains (records v) r

  -- the number of records in the view that stand for the client
  abbrev pub times_in_view : ℕ → View X O R Y → ℕ
  times_in_view c v = sum_by (times_standing c) (records v)

  -- the number of records in these views that stand for the client
  abbrev pub times_in_views : ℕ → List (View X O R Y) → ℕ
  times_in_views c views = sum_by (times_in_view c) views

  -- some seat holds the part
  abbrev pub SomeHolds : List (View X O R Y) → ℕ → Type 0
  SomeHolds views b =
      (i : ℕ) × (v : View X O R Y) × (y : Y) × (get_elem? views i ≡ some v) × Contains v.holds (note b y)

  -- the view has a single record, which stands for its client
  abbrev pub IsSingleClient : View X O R Y → Type 0
  IsSingleClient v = (v.others ≡ []) × StandsFor v.mine v.mine.number

module _ {S X Y : Type 0} (content : S → Y) (part : ℕ → X → Y) where
  -- the lock word of the part is 0, and its slot has that part of the set
  abbrev pub IsFree : X → List ℕ → List (Option S) → ℕ → Type 0
  IsFree set words homes b =
      (slice_index words (table_index b) ≡ 0)
      × ((x : S) × (get_elem? homes (table_index b) ≡ some (some x)) × (content x ≡ part b set))

-- n parts, the content of a slot, a part of a set, the object, its valid sets, the first set, the number of clients
module _ {S X O R Y : Type 0} (n : ℕ) (content : S → Y) (part : ℕ → X → Y) (answer : X → O → X × R)
    (valid : X → Type 0) (start : X) (clients : ℕ) where
  -- The view holds part b: the lock word has the client's mark, the slot is empty, and the note is that part of the
  -- set.
  pub record Holding (set : X) (words : List ℕ) (homes : List (Option S)) (v : View X O R Y) (b : ℕ) (y : Y)
      : Type 0 where
    pub within : b < n
    pub word_is : slice_index words (table_index b) ≡ suc v.mine.number
    pub out : get_elem? homes (table_index b) ≡ some none
    pub noted : y ≡ part b set
    pub marked : Contains v.mine.marks (v.mine.number, b)
    pub stands : StandsFor v.mine v.mine.number

  -- a view is consistent with the history and with the words and slots of the table
  pub record IsConsistentView (log : List (Call O R)) (words : List ℕ) (homes : List (Option S)) (v : View X O R Y)
      : Type 0 where
    -- a view that stands for a client knows the first set and the number of clients
    pub same_map : (c : ℕ) → 0 < times_in_view c v → (v.start ≡ start) × (v.clients ≡ clients)
    -- each record is consistent with its own history and with the whole history
    pub fits : (r : Record O R) → Contains (records v) r → IsConsistent log r × IsConsistent r.seen r
    -- the clients of a record are clients of the map
    pub known : (r : Record O R) → Contains (records v) r → (c : ℕ) → StandsFor r c → c < clients
    pub holding : (b : ℕ) (y : Y) → Contains v.holds (note b y)
        → Holding (state_after answer start log) words homes v b y

  -- the invariant
  pub record TableInvariant (s : State S (View X O R Y)) : Type 0 where
    -- the longest history
    pub log : List (Call O R)
    pub legal : IsLegal answer start log
    -- some record has seen all of it
    pub seen_by_some : (r : Record O R) × IsPresent s.views r × (r.seen ≡ log)
    -- the set after it is valid for the object
    pub set_is_valid : valid (state_after answer start log)
    pub clients_are_known : (e : Call O R) → Contains log e → e.client < clients
    pub word_count : length s.words ≡ table_index n
    pub slot_count : length s.homes ≡ table_index n
    -- the words between those of the parts are 0, so that none of them is a lock
    pub spare : (k : ℕ) → IsSpare k → slice_index s.words k ≡ 0
    pub each_part : (b : ℕ) → b < n
        → IsFree content part (state_after answer start log) s.words s.homes b ⊎ SomeHolds s.views b
    pub each_view : (i : ℕ) (v : View X O R Y) → get_elem? s.views i ≡ some v → IsConsistentView log s.words s.homes v
    -- each miss is a mark of the record that stands for the holder
    pub misses_are_marks : (r q : Record O R) → IsPresent s.views r → IsPresent s.views q
        → (h b : ℕ) → Contains r.misses (h, b) → StandsFor q h → Contains q.marks (h, b)
    -- different records stand for different clients
    pub clients_are_distinct : (c : ℕ) → times_in_views c s.views ≤ 1

-- the parts of these notes
abbrev pub parts_of_notes : {Y : Type 0} → List (Note Y) → List ℕ
parts_of_notes notes = map (λ t. t.part) notes
